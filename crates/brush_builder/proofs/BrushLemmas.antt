-- A brush whose monomers are all placed, and one whose chains are joined too.
use Rattle.std.proofs.Common.{◌≡◌, ℕ, ◌+◌, ◌*◌, ◌<◌, ◌≤◌, true, List, length, ap, sym, ◌∙◌, subst, arith, pos, ◌↔◌}
use Rattle.std.proofs.lemmas.List.FromFn.{length-map-range_with_len, get_or-map-range_with_len}
use Rattle.bfm_base.specs.declared.limits.TheConstants.{GREATEST_SIDE}
use Rattle.bfm_base.specs.declared.place.P3.{P3}
use Rattle.bfm_base.specs.declared.place.Shape.{Shape}
use Rattle.bfm_geom.specs.Difference.{IsBox, side_of}
use Rattle.bond_set.specs.UsualSet.{usual_set}
use Rattle.contact_table.specs.Contacts.{ContactTable, no_contacts}
use Rattle.bfm_world.specs.Bonds.{are_bonded}
use Rattle.bfm_world.specs.Chains.{goes_on, AreSuccessive, LiesTwoOn}
use Rattle.bfm_world.specs.Configuration.{Configuration, may_bond, position_at, position_of, reach_of}
use Rattle.bfm_world.specs.Draft.{Draft, begun, with_positions, with_bonds}
use Rattle.bfm_world.proofs.ChainLemmas.{are_bonded-chain_bonds}
use Rattle.bfm_world.proofs.StartLemmas.{may_bond-two, reach_of-map-range_with_len}
use Rattle.brush_builder.specs.Brush.{feet_in, room_above, place_of, brush_positions, brush_world}
use Rattle.brush_builder.proofs.FootLemmas.{place_of-near, place_of-next}

abbrev pub placed : Shape → ℕ → ℕ → ℕ → Draft
placed shape spacing size n = with_positions (begun shape usual_set no_contacts n) (brush_positions shape spacing size n)

pub all_placed : (b now : Draft) (shape : Shape) (set : List (P3 × ℕ)) (table : ContactTable) (spacing size n : ℕ) → set ≡ usual_set → table ≡ no_contacts → b ≡ begun shape set table n → now ≡ with_positions b (brush_positions b.world.shape spacing size b.count)
    → now ≡ placed shape spacing size n
all_placed b now shape set table spacing size n usual none new all =
    all
    ∙ (ap (λ (d : Draft). with_positions d (brush_positions d.world.shape spacing size d.count)) new
    ∙ (ap (λ s. with_positions (begun shape s table n) (brush_positions shape spacing size n)) usual
    ∙ ap (λ t. with_positions (begun shape usual_set t n) (brush_positions shape spacing size n)) none))

pub length-placed : (d : Draft) (shape : Shape) (spacing size n : ℕ) → d ≡ placed shape spacing size n → length d.world.positions ≡ d.count
length-placed d shape spacing size n e =
    ap (λ (c : Draft). length c.world.positions) e ∙ (length-map-range_with_len (place_of shape spacing size) 0 n ∙ ap (λ (c : Draft). c.count) (sym e))

-- joining keeps the positions
pub length-joined : (d joined : Draft) (bonds : List (List ℕ)) → joined ≡ with_bonds d bonds → length d.world.positions ≡ d.count → length joined.world.positions ≡ joined.count
length-joined d joined bonds e h = ap (λ (c : Draft). length c.world.positions) e ∙ (h ∙ ap (λ (c : Draft). c.count) (sym e))

position_at-brush : (shape : Shape) (spacing size n k : ℕ) → k < n → position_at (brush_positions shape spacing size n) k ≡ place_of shape spacing size k
position_at-brush shape spacing size n k l = get_or-map-range_with_len (place_of shape spacing size) 0 n k k (record { x = pos 0; y = pos 0; z = pos 0 }) l (omega arith)

-- a bond may run from each monomer to the next of its chain
pub may_bond-placed : (d : Draft) (shape : Shape) (spacing size n k : ℕ) → IsBox shape → 2 ≤ spacing → spacing ≤ side_of shape 0 → spacing ≤ side_of shape 1 → 0 < size → size ≤ room_above shape
    → d ≡ placed shape spacing size n → k + 1 < n → goes_on size k ≡ true → may_bond d.world.shape d.world.set (position_of d.world k) (position_of d.world (k + 1)) ≡ true
may_bond-placed d shape spacing size n k box two across deep some room e l same =
    let next = place_of-next shape box spacing size two across deep some room k same in
    let here = sym (position_at-brush shape spacing size n k (omega arith)) in
    let there = sym (position_at-brush shape spacing size n (k + 1) l) in
    subst (λ (c : Draft). may_bond c.world.shape c.world.set (position_of c.world k) (position_of c.world (k + 1)) ≡ true) (sym e)
    (may_bond-two shape _ _ box (subst (λ p. LiesTwoOn p (position_at (brush_positions shape spacing size n) (k + 1))) here (subst (λ q. LiesTwoOn (place_of shape spacing size k) q) there next)))

-- what holds of the bonds of a brush
pub bonded-brush : (w : Configuration) (shape : Shape) (spacing size i j : ℕ) → w ≡ brush_world shape spacing size → i < feet_in shape spacing * size → (are_bonded w.bonds i j ≡ true) ↔ AreSuccessive size i j
bonded-brush w shape spacing size i j e l =
    subst (λ (c : Configuration). (are_bonded c.bonds i j ≡ true) ↔ AreSuccessive size i j) (sym e) (are_bonded-chain_bonds size (feet_in shape spacing * size) i j l)

-- no coordinate of a brush is above the greatest side
pub near-brush : (w : Configuration) (shape : Shape) (spacing size : ℕ) → IsBox shape → 2 ≤ spacing → spacing ≤ side_of shape 0 → spacing ≤ side_of shape 1 → 0 < size → size ≤ room_above shape
    → w ≡ brush_world shape spacing size → reach_of w.positions ≤ GREATEST_SIDE
near-brush w shape spacing size box two across deep some room e =
    subst (λ (c : Configuration). reach_of c.positions ≤ GREATEST_SIDE) (sym e)
    (reach_of-map-range_with_len (place_of shape spacing size) 0 (feet_in shape spacing * size) GREATEST_SIDE (λ k l. place_of-near shape box spacing size two across deep some room k (omega arith)))
