use Rattle.std.proofs.Common.{◌∙◌, sym, ap, eqb, w64}
use Rattle.std.proofs.lemmas.Nat.Bits.{bit_at_clear_same, bit_at_clear_other, bit_at_set_same, bit_at_set_other}
use Rattle.packed_lattice.specs.Packing.{taken_of}
use Rattle.packed_lattice.proofs.lattice.with_bit.Goals as goal

pub returns-in-Free-clause-same : goal.returns-in-Free-clause-same
returns-in-Free-clause-same c =
    ap (λ b. eqb b 1) (bit_at_clear_same w64 c.args.word c.args.k c.requires) ∙ ap taken_of (sym c.in-Free.is)

pub returns-in-Free-clause-others : goal.returns-in-Free-clause-others
returns-in-Free-clause-others c = λ j h n. ap (λ b. eqb b 1) (bit_at_clear_other w64 c.args.word c.args.k c.requires j h n)

pub returns-in-Taken-clause-same : goal.returns-in-Taken-clause-same
returns-in-Taken-clause-same c =
    ap (λ b. eqb b 1) (bit_at_set_same w64 c.args.word c.args.k c.requires) ∙ ap taken_of (sym c.in-Taken.is)

pub returns-in-Taken-clause-others : goal.returns-in-Taken-clause-others
returns-in-Taken-clause-others c = λ j h n. ap (λ b. eqb b 1) (bit_at_set_other w64 c.args.word c.args.k c.requires j n)
