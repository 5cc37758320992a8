-- A network whose monomers are all placed, and one whose strands are joined along all axes too.
use Rattle.std.proofs.Common.{◌≡◌, ℕ, zero, suc, ◌<◌, ◌≤◌, Bool, true, false, ◌||◌, ◌⊎◌, inl, inr, List, [], length, replicate, refl, ap, sym, ◌∙◌, subst, arith}
use Rattle.std.proofs.lemmas.Bool.{and_parts, cases_lt}
use Rattle.std.proofs.lemmas.List.FromFn.{fill_by_all, get_or-map-range_with_len}
use Rattle.bfm_base.specs.declared.limits.TheConstants.{GREATEST_SIDE}
use Rattle.bfm_base.specs.declared.place.P3.{P3}
use Rattle.bfm_base.specs.Direction.{step_of}
use Rattle.bfm_geom.specs.Difference.{plus, minus, wrapped}
use Rattle.bond_set.specs.UsualSet.{usual_set}
use Rattle.contact_table.specs.Contacts.{ContactTable, no_contacts}
use Rattle.bfm_world.specs.Bonds.{neighbours_of, are_bonded, AreBonds}
use Rattle.bfm_world.specs.Configuration.{Configuration, IsValid, position_of, reach_of}
use Rattle.bfm_world.specs.Draft.{Draft, begun, with_positions, with_bonds}
use Rattle.bfm_world.proofs.BondLemmas.{has, test-eq}
use Rattle.bfm_world.proofs.StartLemmas.{reach_of-map-range_with_len}
use Rattle.network_builder.specs.declared.nodes.Axis.{Axis}
use Rattle.network_builder.specs.declared.nodes.Axis.TheVariants.{X, Y, Z}
use Rattle.network_builder.specs.Network.{IsNetwork, monomers_in, network_shape, place_of, network_positions, is_on, next_along, comes_after, are_joined_along, are_joined, network_neighbours, network_bonds, network_world, direction_along}
use Rattle.network_builder.proofs.CellLemmas.{next_along-below}
use Rattle.network_builder.proofs.GeometryLemmas.{length-network_positions, place_of-near, position_at-network, wrapped-next}
use Rattle.network_builder.proofs.RowLemmas.{ascending_same, IsAscending-filter, inside-filter, beyond-filter}

pub no_neighbours : (n i : ℕ) → neighbours_of (replicate n []) i ≡ []
no_neighbours zero i = refl
no_neighbours (suc n) zero = refl
no_neighbours (suc n) (suc i) = no_neighbours n i

abbrev pub placed : ℕ → ℕ → Draft
placed nodes strand = with_positions (begun (network_shape nodes strand) usual_set no_contacts (monomers_in nodes strand)) (network_positions nodes strand)

none_before : (a x y z : Bool) → a ≡ false → (((a || x) || y) || z) ≡ ((x || y) || z)
none_before a x y z h = ap (λ t. ((t || x) || y) || z) h

-- the bonds are those of the definition, where each pair is bonded that is to be
pub exact_bonds : (nodes strand : ℕ) (bonds : List (List ℕ)) → AreBonds (monomers_in nodes strand) bonds
    → ((i j : ℕ) → i < monomers_in nodes strand → j < monomers_in nodes strand → are_bonded bonds i j ≡ are_joined nodes strand i j) → bonds ≡ network_bonds nodes strand
exact_bonds nodes strand bonds are same = fill_by_all (network_neighbours nodes strand) bonds (monomers_in nodes strand) [] are.rows row
  where
    n : ℕ
    n = monomers_in nodes strand

    no_other : (i j : ℕ) → monomers_in nodes strand ≤ j → (t : Bool) → are_bonded bonds i j ≡ t → t ≡ false
    no_other i j l true e = let there = are.others i j e in absurd (omega (arith, there.0))
    no_other i j l false e = refl

    row : (i : ℕ) → i < monomers_in nodes strand → neighbours_of bonds i ≡ network_neighbours nodes strand i
    row i l = ascending_same (neighbours_of bonds i) (network_neighbours nodes strand i) (are.ascending i [] (omega (arith, are.rows))) (IsAscending-filter (are_joined nodes strand i) 0 (monomers_in nodes strand)) members
      where
        members : (j : ℕ) → has j (neighbours_of bonds i) ≡ has j (network_neighbours nodes strand i)
        members j = by_place (cases_lt j (monomers_in nodes strand))
          where
            by_place : (j < monomers_in nodes strand) ⊎ (monomers_in nodes strand ≤ j) → has j (neighbours_of bonds i) ≡ has j (network_neighbours nodes strand i)
            by_place (inl h) = same i j l h ∙ sym (inside-filter (are_joined nodes strand i) 0 (monomers_in nodes strand) j (omega arith) (omega arith))
            by_place (inr h) = no_other i j h (are_bonded bonds i j) refl ∙ sym (beyond-filter (are_joined nodes strand i) 0 (monomers_in nodes strand) j (omega arith))

-- joined along all three axes, one after the other
pub all_joined : (nodes strand : ℕ) (a b c d : List (List ℕ)) → ((i : ℕ) → neighbours_of a i ≡ [])
    → ((i j : ℕ) → i < monomers_in nodes strand → j < monomers_in nodes strand → are_bonded b i j ≡ (are_bonded a i j || are_joined_along nodes strand X i j))
    → ((i j : ℕ) → i < monomers_in nodes strand → j < monomers_in nodes strand → are_bonded c i j ≡ (are_bonded b i j || are_joined_along nodes strand Y i j))
    → ((i j : ℕ) → i < monomers_in nodes strand → j < monomers_in nodes strand → are_bonded d i j ≡ (are_bonded c i j || are_joined_along nodes strand Z i j))
    → (i j : ℕ) → i < monomers_in nodes strand → j < monomers_in nodes strand → are_bonded d i j ≡ are_joined nodes strand i j
all_joined nodes strand a b c d none x y z i j li lj =
    z i j li lj
    ∙ (ap (λ t. t || are_joined_along nodes strand Z i j) (y i j li lj)
    ∙ (ap (λ t. (t || are_joined_along nodes strand Y i j) || are_joined_along nodes strand Z i j) (x i j li lj)
    ∙ none_before (are_bonded a i j) (are_joined_along nodes strand X i j) (are_joined_along nodes strand Y i j) (are_joined_along nodes strand Z i j) (ap (has j) (none i))))

-- ---- the world that is built
pub begun_placed : (nodes strand n : ℕ) (set : List (P3 × ℕ)) (table : ContactTable) (new now : Draft) → n ≡ monomers_in nodes strand → set ≡ usual_set → table ≡ no_contacts → new ≡ begun (network_shape nodes strand) set table n
    → now ≡ with_positions new (network_positions nodes strand) → now ≡ placed nodes strand
begun_placed nodes strand n set table new now count usual none e all =
    all
    ∙ (ap (λ d. with_positions d (network_positions nodes strand)) e
    ∙ (ap (λ s. with_positions (begun (network_shape nodes strand) s table n) (network_positions nodes strand)) usual
    ∙ (ap (λ t. with_positions (begun (network_shape nodes strand) usual_set t n) (network_positions nodes strand)) none
    ∙ ap (λ k. with_positions (begun (network_shape nodes strand) usual_set no_contacts k) (network_positions nodes strand)) count)))

pub unbonded : (nodes strand : ℕ) (now : Draft) → now ≡ placed nodes strand → (i : ℕ) → neighbours_of now.world.bonds i ≡ []
unbonded nodes strand now e i = ap (λ (d : Draft). neighbours_of d.world.bonds i) e ∙ no_neighbours (monomers_in nodes strand) i

-- joining changes the bonds alone
pub still_placed : (nodes strand : ℕ) (a b c d : Draft) → a ≡ placed nodes strand → b ≡ with_bonds a b.world.bonds → c ≡ with_bonds b c.world.bonds → d ≡ with_bonds c d.world.bonds
    → d ≡ with_bonds (placed nodes strand) d.world.bonds
still_placed nodes strand a b c d e x y z =
    z
    ∙ (ap (λ q. with_bonds q d.world.bonds) y
    ∙ (ap (λ q. with_bonds (with_bonds q c.world.bonds) d.world.bonds) x ∙ ap (λ q. with_bonds (with_bonds (with_bonds q b.world.bonds) c.world.bonds) d.world.bonds) e))

pub length-still_placed : (nodes strand : ℕ) (d : Draft) → d ≡ with_bonds (placed nodes strand) d.world.bonds → length d.world.positions ≡ d.count
length-still_placed nodes strand d e = ap (λ (q : Draft). length q.world.positions) e ∙ (length-network_positions nodes strand ∙ ap (λ (q : Draft). q.count) (sym e))

pub exact_network : (nodes strand : ℕ) (d : Draft) (w : Configuration) → d ≡ with_bonds (placed nodes strand) d.world.bonds → w ≡ d.world → IsValid w
    → ((i j : ℕ) → i < monomers_in nodes strand → j < monomers_in nodes strand → are_bonded d.world.bonds i j ≡ are_joined nodes strand i j) → w ≡ network_world nodes strand
exact_network nodes strand d w e same valid joined =
    let positions : w.positions ≡ network_positions nodes strand = ap (λ (c : Configuration). c.positions) (same ∙ ap (λ (q : Draft). q.world) e) in
    let count : length w.positions ≡ monomers_in nodes strand = ap length positions ∙ length-network_positions nodes strand in
    let bonds : w.bonds ≡ d.world.bonds = ap (λ (c : Configuration). c.bonds) same in
    let are : AreBonds (monomers_in nodes strand) d.world.bonds = subst (λ n. AreBonds n d.world.bonds) count (subst (λ b. AreBonds (length w.positions) b) bonds valid.bonds) in
    same
    ∙ (ap (λ (q : Draft). q.world) e
    ∙ ap (λ b. (with_bonds (placed nodes strand) b).world) (exact_bonds nodes strand d.world.bonds are joined))

-- ---- what holds of a network
pub bonded-network : (w : Configuration) (nodes strand i j : ℕ) → w ≡ network_world nodes strand → i < monomers_in nodes strand → j < monomers_in nodes strand → are_bonded w.bonds i j ≡ are_joined nodes strand i j
bonded-network w nodes strand i j e li lj =
    ap (λ (c : Configuration). are_bonded c.bonds i j) e
    ∙ (ap (has j) (get_or-map-range_with_len (network_neighbours nodes strand) 0 (monomers_in nodes strand) i i [] li (omega arith))
    ∙ inside-filter (are_joined nodes strand i) 0 (monomers_in nodes strand) j (omega arith) (omega arith))

pub steps-network : (w : Configuration) (nodes strand : ℕ) (axis : Axis) (i j : ℕ) → IsNetwork nodes strand → w ≡ network_world nodes strand → i < monomers_in nodes strand → comes_after nodes strand axis i j ≡ true
    → wrapped w.shape (minus (position_of w j) (position_of w i)) ≡ plus (step_of (direction_along axis)) (step_of (direction_along axis))
steps-network w nodes strand axis i j net e l after =
    let parts = and_parts (is_on strand axis i) _ after in
    let here : next_along nodes strand axis i ≡ j = test-eq (next_along nodes strand axis i) j parts.1 in
    let l' : j < monomers_in nodes strand = subst (λ k. k < monomers_in nodes strand) here (next_along-below nodes strand net axis i l parts.0) in
    ap (λ (c : Configuration). wrapped c.shape (minus (position_of c j) (position_of c i))) e
    ∙ (ap (λ q. wrapped (network_shape nodes strand) (minus q (position_of (network_world nodes strand) i))) (position_at-network nodes strand j l')
    ∙ (ap (λ p. wrapped (network_shape nodes strand) (minus (place_of nodes strand j) p)) (position_at-network nodes strand i l)
    ∙ subst (λ k. wrapped (network_shape nodes strand) (minus (place_of nodes strand k) (place_of nodes strand i)) ≡ plus (step_of (direction_along axis)) (step_of (direction_along axis))) here (wrapped-next nodes strand net axis i l parts.0)))

-- no coordinate of a network is above the greatest side
pub near-network : (w : Configuration) (nodes strand : ℕ) → IsNetwork nodes strand → w ≡ network_world nodes strand → reach_of w.positions ≤ GREATEST_SIDE
near-network w nodes strand net e =
    subst (λ (c : Configuration). reach_of c.positions ≤ GREATEST_SIDE) (sym e)
    (reach_of-map-range_with_len (place_of nodes strand) 0 (monomers_in nodes strand) GREATEST_SIDE (λ k l. place_of-near nodes strand net k (omega arith)))
