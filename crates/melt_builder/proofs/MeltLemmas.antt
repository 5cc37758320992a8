-- A melt whose monomers are all placed, and one whose chains are joined too.
use Rattle.std.proofs.Common.{◌≡◌, ℕ, ◌+◌, ◌*◌, ◌<◌, ◌≤◌, true, List, length, ap, sym, ◌∙◌, subst, arith, pos, ◌↔◌}
use Rattle.std.proofs.lemmas.List.FromFn.{get_or-map-range_with_len}
use Rattle.bfm_base.specs.declared.limits.TheConstants.{GREATEST_SIDE}
use Rattle.bfm_base.specs.declared.place.P3.{P3}
use Rattle.bfm_base.specs.declared.place.Shape.{Shape}
use Rattle.bfm_geom.specs.Difference.{IsBox}
use Rattle.bond_set.specs.UsualSet.{usual_set}
use Rattle.contact_table.specs.Contacts.{ContactTable, no_contacts}
use Rattle.bfm_world.specs.Bonds.{are_bonded}
use Rattle.bfm_world.specs.Configuration.{Configuration, may_bond, position_at, position_of, reach_of}
use Rattle.bfm_world.specs.Draft.{Draft, begun, with_positions, with_bonds}
use Rattle.bfm_world.specs.Chains.{chain_bonds, AreSuccessive, LiesTwoOn}
use Rattle.melt_builder.specs.Melt.{cells_in, place_of, melt_positions, melt_world}
use Rattle.bfm_world.proofs.ChainLemmas.{are_bonded-chain_bonds}
use Rattle.bfm_world.proofs.StartLemmas.{may_bond-two, reach_of-map-range_with_len}
use Rattle.melt_builder.proofs.PlaceLemmas.{length-melt_positions, place_of-near, place_of-next}

abbrev pub placed : Shape → ℕ → Draft
placed shape n = with_positions (begun shape usual_set no_contacts n) (melt_positions shape n)

pub all_placed : (b now : Draft) (shape : Shape) (set : List (P3 × ℕ)) (table : ContactTable) (n : ℕ) → set ≡ usual_set → table ≡ no_contacts → b ≡ begun shape set table n → now ≡ with_positions b (melt_positions b.world.shape n) → now ≡ placed shape n
all_placed b now shape set table n usual none new all =
    all
    ∙ (ap (λ (d : Draft). with_positions d (melt_positions d.world.shape n)) new
    ∙ (ap (λ s. with_positions (begun shape s table n) (melt_positions shape n)) usual
    ∙ ap (λ t. with_positions (begun shape usual_set t n) (melt_positions shape n)) none))

pub all_joined : (now joined : Draft) (shape : Shape) (n size : ℕ) → now ≡ placed shape n → joined ≡ with_bonds now (chain_bonds size now.count) → joined ≡ with_bonds (placed shape n) (chain_bonds size n)
all_joined now joined shape n size e f = f ∙ ap (λ (d : Draft). with_bonds d (chain_bonds size d.count)) e

pub length-placed : (d : Draft) (shape : Shape) (n : ℕ) → d ≡ placed shape n → length d.world.positions ≡ d.count
length-placed d shape n e = ap (λ (c : Draft). length c.world.positions) e ∙ (length-melt_positions shape n ∙ ap (λ (c : Draft). c.count) (sym e))

pub length-joined : (d : Draft) (shape : Shape) (n size : ℕ) → d ≡ with_bonds (placed shape n) (chain_bonds size n) → length d.world.positions ≡ d.count
length-joined d shape n size e = ap (λ (c : Draft). length c.world.positions) e ∙ (length-melt_positions shape n ∙ ap (λ (c : Draft). c.count) (sym e))

position_at-melt : (shape : Shape) (n k : ℕ) → k < n → position_at (melt_positions shape n) k ≡ place_of shape k
position_at-melt shape n k l = get_or-map-range_with_len (place_of shape) 0 n k k (record { x = pos 0; y = pos 0; z = pos 0 }) l (omega arith)

next_of : (shape : Shape) (n k : ℕ) → IsBox shape → k + 1 < n → LiesTwoOn (position_at (melt_positions shape n) k) (position_at (melt_positions shape n) (k + 1))
next_of shape n k box l =
    subst (λ p. LiesTwoOn p (position_at (melt_positions shape n) (k + 1))) (sym (position_at-melt shape n k (omega arith)))
    (subst (λ q. LiesTwoOn (place_of shape k) q) (sym (position_at-melt shape n (k + 1) l)) (place_of-next shape box k))

-- a bond may run from each monomer to the next
pub may_bond-placed : (d : Draft) (shape : Shape) (n k : ℕ) → IsBox shape → d ≡ placed shape n → k + 1 < n
    → may_bond d.world.shape d.world.set (position_of d.world k) (position_of d.world (k + 1)) ≡ true
may_bond-placed d shape n k box e l =
    subst (λ (c : Draft). may_bond c.world.shape c.world.set (position_of c.world k) (position_of c.world (k + 1)) ≡ true) (sym e) (may_bond-two shape _ _ box (next_of shape n k box l))

-- what holds of the bonds and the positions of a melt
pub bonded-melt : (w : Configuration) (shape : Shape) (chains size i j : ℕ) → w ≡ melt_world shape chains size → i < chains * size → (are_bonded w.bonds i j ≡ true) ↔ AreSuccessive size i j
bonded-melt w shape chains size i j e l =
    subst (λ (c : Configuration). (are_bonded c.bonds i j ≡ true) ↔ AreSuccessive size i j) (sym e) (are_bonded-chain_bonds size (chains * size) i j l)

pub next-melt : (w : Configuration) (shape : Shape) (chains size k : ℕ) → IsBox shape → w ≡ melt_world shape chains size → k + 1 < chains * size → LiesTwoOn (position_of w k) (position_of w (k + 1))
next-melt w shape chains size k box e l =
    subst (λ (c : Configuration). LiesTwoOn (position_of c k) (position_of c (k + 1))) (sym e) (next_of shape (chains * size) k box l)

-- no coordinate of a melt is above the greatest side
pub near-melt : (w : Configuration) (shape : Shape) (chains size : ℕ) → IsBox shape → w ≡ melt_world shape chains size → chains * size ≤ cells_in shape → reach_of w.positions ≤ GREATEST_SIDE
near-melt w shape chains size box e room =
    subst (λ (c : Configuration). reach_of c.positions ≤ GREATEST_SIDE) (sym e)
    (reach_of-map-range_with_len (place_of shape) 0 (chains * size) GREATEST_SIDE (λ k l. place_of-near shape box k (omega arith)))
