use Rattle.std.proofs.Common.{◌≡◌, ◌∙◌, ap, arith, bit_or, eqb, subst, true, w8, ◌*◌, ◌%◌, ◌^◌}
use Rattle.std.proofs.lemmas.Nat.Bits.{bit_at_set_other, bit_at_set_same}
use Rattle.bond_set.specs.Crossing.{direction_number}
use Rattle.packed_lattice.specs.Packing.{is_bit}
use Rattle.packed_engine.proofs.spots.with_step.Goals as goal

pub returns-clause-same : goal.returns-clause-same
returns-clause-same c =
    let k = c.number.result in
    subst (λ n. is_bit (bit_or c.args.steps (1 * 2 ^ k % 256)) n ≡ true) c.number.ensures.value (ap (λ b. eqb b 1) (bit_at_set_same w8 c.args.steps k (omega (arith, c.number.ensures.few))))

pub returns-clause-others : goal.returns-clause-others
returns-clause-others c other n =
    ap (λ b. eqb b 1) (bit_at_set_other w8 c.args.steps c.number.result (omega (arith, c.number.ensures.few)) (direction_number other) (λ e. n (e ∙ c.number.ensures.value)))
