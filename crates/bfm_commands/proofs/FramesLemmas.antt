-- Whole frames that are kept.
use Rattle.std.proofs.Common.{◌≡◌, ◌≤◌, true, [], length, ap, sym, ◌∙◌, subst, arith}
use Rattle.std.proofs.lemmas.Bool.Decides.{nat_tests}
use Rattle.bfm_base.specs.declared.limits.TheConstants.{WORLD_REACH, GREATEST_MCS}
use Rattle.bfm_world.specs.Configuration.{IsSound, IsValid, reach_of}
use Rattle.bfm_world.specs.Draft.{Draft, with_positions, with_bonds}
use Rattle.bfm_commands.specs.Reading.{ArePlaces, IsKept, is_complete, at_whole}
use Rattle.bfm_commands.specs.declared.frames.Whole.{Whole}

-- the positions of a frame that is whole are those of as many monomers
pub ArePlaces-whole : (draft : Draft) → is_complete draft ≡ true → reach_of draft.world.positions ≤ WORLD_REACH → ArePlaces draft.count draft.world.positions
ArePlaces-whole draft complete near = record { each = grind (arith, nat_tests); reach = near }

-- a frame that is whole is a valid world
pub IsKept-whole : (draft : Draft) (whole : Whole) → IsSound draft.count draft.world → is_complete draft ≡ true → whole.last.items ≡ draft.world.positions → whole.bonds ≡ draft.world.bonds
    → ArePlaces draft.count whole.first.items → reach_of draft.world.positions ≤ WORLD_REACH → whole.mcs ≤ GREATEST_MCS → IsKept draft whole
IsKept-whole draft whole sound complete last bonds first near time =
    let number : draft.count ≡ length draft.world.positions = grind (arith, nat_tests) in
    let valid : IsValid draft.world = subst (λ n. IsSound n draft.world) number sound in
    let same : draft ≡ at_whole draft whole =
    ap (λ ps. with_bonds (with_positions draft ps) draft.world.bonds) (sym last) ∙ ap (with_bonds (with_positions draft whole.last.items)) (sym bonds) in
    record {
      valid = subst (λ (d : Draft). IsValid d.world) same valid;
      first = first;
      reach = subst (λ ps. reach_of ps ≤ WORLD_REACH) (sym last) near;
      mcs = time;
    }

-- bonds and positions that come or go later leave it valid
pub IsKept-same : (old new : Draft) (whole : Whole) → with_bonds (with_positions old []) [] ≡ with_bonds (with_positions new []) [] → IsKept old whole → IsKept new whole
IsKept-same old new whole same k = record {
  valid = subst (λ d. IsValid (at_whole d whole).world) same k.valid;
  first = subst (λ n. ArePlaces n whole.first.items) (ap (λ (d : Draft). d.count) same) k.first;
  reach = k.reach;
  mcs = k.mcs;
}
