use Rattle.std.proofs.Common.{◌≡◌, ◌∙◌, ap, arith, inl, inr, subst, sym}
use Rattle.std.proofs.lemmas.Bool.{cases_eq}
use Rattle.std.proofs.lemmas.List.{get_or-set_other, get_or-set_same, length-set}
use Rattle.std.specs.Prelude.{slice_index, slice_set}
use Rattle.bfm_base.specs.declared.place.P3.{P3}
use Rattle.bond_set.specs.FlatTables.{key_of}
use Rattle.packed_engine.specs.Spots.{allows, vector_at}
use Rattle.packed_engine.proofs.StepLemmas.{is_kept, key-within, vector_at-key}
use Rattle.packed_engine.proofs.allowed.Allowed.new.Goals as goal

pub loop-key-preserved : goal.loop-key-preserved
loop-key-preserved c =
    let set = c.args.set.now in
    let key = c.loop-key.key in
    let steps = c.loop-key.steps in
    let new = c.steps_kept.result in
    record {
      size = length-set steps key new ∙ c.loop-key.invariant.size;
      done = λ k l dir. elim (cases_eq k key) [
        | inl same ↦
            subst (λ n. allows (slice_index (slice_set steps key new) n) dir ≡ is_kept set (vector_at n) dir) (sym same)
            (ap (λ b. allows b dir) (get_or-set_same steps key new 0 (omega (arith, c.loop-key-test.true, c.loop-key.invariant.size)))
            ∙ c.steps_kept.ensures dir ∙ ap (λ (v : P3). is_kept set v dir) c.vector_at.ensures.value)
        | inr other ↦ ap (λ b. allows b dir) (get_or-set_other steps key k new 0 other) ∙ c.loop-key.invariant.done k (omega (arith, l, other)) dir
      ];
    }

pub returns : goal.returns
returns c v short dir =
    c.loop-key.invariant.done (key_of v) (omega (arith, key-within v, c.loop-key-test.false)) dir ∙ ap (λ (u : P3). is_kept c.args.set.now u dir) (vector_at-key v short)
