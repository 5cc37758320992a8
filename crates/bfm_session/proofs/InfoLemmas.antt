-- The bonds of a world, counted.
use Rattle.std.proofs.Common.{◌≡◌, ◌↔◌, ℕ, ◌<◌, Bool, true, false, List, [], length, nat_eq, refl, sym, arith}
use Rattle.std.specs.List.{Contains, IsDistinct}
use Rattle.std.specs.Bool.{Decides}
use Rattle.std.proofs.lemmas.Cmp.{nat_eq_equiv}
use Rattle.std.proofs.lemmas.Map.Made.{length-from_same_keys, is_member-Decides}
use Rattle.bfm_world.specs.Bonds.{AreBonds, IsAscending, neighbours_of, are_bonded}
use Rattle.bfm_world.proofs.BondLemmas.{Contains-has, has-Contains, eq-test, test-eq, IsDistinct-from_ascending}

both_decide : (a b : Bool) (P Q : Type 0) → Decides a P → Decides b Q → (P → Q) → (Q → P) → a ≡ b
both_decide true true P Q p q f g = refl
both_decide false false P Q p q f g = refl
both_decide true false P Q p q f g = sym (q.1 (f (p.0 refl)))
both_decide false true P Q p q f g = p.1 (g (q.0 refl))

same_test : (a b : ℕ) → Decides (nat_eq a b) (a ≡ b)
same_test a b = (test-eq a b, λ e. rw e (eq-test b))

row_ascending : (n : ℕ) (bonds : List (List ℕ)) (i : ℕ) → AreBonds n bonds → i < n → IsAscending (neighbours_of bonds i)
row_ascending n bonds i a l = a.ascending i [] (omega (arith, a.rows))

-- whoever is shown as a neighbour, each once, is one of the row, and they are as many
pub length-neighbours : (n : ℕ) (bonds : List (List ℕ)) (i : ℕ) (shown : List ℕ) → AreBonds n bonds → i < n → ((j : ℕ) → Contains shown j ↔ (are_bonded bonds i j ≡ true)) → IsDistinct nat_eq shown
    → length shown ≡ length (neighbours_of bonds i)
length-neighbours n bonds i shown a l listed once =
    let row = neighbours_of bonds i in
    length-from_same_keys nat_eq_equiv shown row once (IsDistinct-from_ascending row (row_ascending n bonds i a l))
    (λ q. both_decide _ _ _ _ (is_member-Decides same_test shown q) (is_member-Decides same_test row q) (λ h. has-Contains row q ((listed q).0 h)) (λ h. (listed q).1 (Contains-has row q h)))
