use Rattle.std.proofs.Common.{◌++◌, drop}
use Rattle.std.specs.List.{flat_map}
use Rattle.bfm_writer.specs.Batch.{TookFirst}
use Rattle.bfm_writer.specs.Text.{bond_line}
use Rattle.bfm_writer.proofs.groups.write_bonds.Given as goal

-- what is gathered and the bonds that follow are left of all
abbrev pub invariant-loop-bond : goal.invariant-loop-bond
invariant-loop-bond g l =
    TookFirst (g.S.Sink.account l.initial.sink) (g.S.Sink.account l.sink)
    (l.initial.batch ++ flat_map bond_line l.bonds) (l.batch ++ flat_map bond_line (drop l.bond-index l.bonds))
