use Rattle.std.proofs.Common.{◌-◌, take}
use Rattle.std.specs.List.{flat_map}
use Rattle.bfm_base.specs.Account.{TookAll}
use Rattle.cluster_stats.specs.Contacts.{count_of}
use Rattle.bfm_session.specs.Tables.{class_line, classes_from}
use Rattle.bfm_session.proofs.tables.class_lines.Given as goal

abbrev pub invariant-loop-b : goal.invariant-loop-b
invariant-loop-b g l =
    TookAll (g.S.Sink.account l.initial.sink) (g.S.Sink.account l.sink)
    (flat_map (λ b. class_line l.fn.a b (count_of l.fn.counts l.fn.a b)) (take (l.b - l.fn.a) (classes_from l.fn.a)))
