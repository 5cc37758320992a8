use Rattle.std.proofs.Common.{◌∙◌, ap, arith}
use Rattle.packed_lattice.specs.Packing.{is_bit}
use Rattle.packed_lattice.proofs.PackingLemmas.{has_bit-is}
use Rattle.packed_engine.proofs.spots.allows.Goals as goal

pub returns : goal.returns
returns c =
    has_bit-is c.from.result c.number.result (omega (arith, c.number.ensures.few))
    ∙ ap (λ n. is_bit n c.number.result) c.from.ensures ∙ ap (is_bit c.args.steps) c.number.ensures.value
