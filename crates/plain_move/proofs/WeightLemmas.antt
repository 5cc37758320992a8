-- Sums of the weights of contacts.
use Rattle.std.proofs.Common.{◌≡◌, ◌≤◌, ℕ, zero, suc, ◌+◌, ◌∷◌, ◌++◌, [], length, ℤ, pos, ◌+ℤ◌, refl, sym, ap, ◌∙◌, arith, add-one}
use Rattle.std.proofs.lemmas.Grind.{common_steps}
use Rattle.std.specs.List.{fold, range_with_len}
use Rattle.std.proofs.lemmas.List.{map-id}
use Rattle.std.proofs.lemmas.List.FromFn.{map-range_with_len_more}
use Rattle.std.proofs.lemmas.List.Sums.{fold_push}
use Rattle.bfm_base.specs.declared.limits.TheConstants.{GREATEST_CLASS}
use Rattle.bfm_base.specs.declared.place.P3.{P3}
use Rattle.contact_table.specs.Contacts.{IsContactTable, weight_of}
use Rattle.bfm_world.specs.Acceptance.{contact_weight, weight_at}
use Rattle.bfm_world.specs.Configuration.{Configuration, class_at, class_of, label_of}

-- what the contacts of monomer i at p with the first n monomers weigh
abbrev pub weight_among : Configuration → ℕ → P3 → ℕ → ℤ
weight_among w i p n = fold (λ sum j. sum +ℤ contact_weight w i p j) (pos 0) (range_with_len 0 n)

-- one monomer more
pub weight_among-more : (w : Configuration) (i : ℕ) (p : P3) (n : ℕ) → weight_among w i p (n + 1) ≡ weight_among w i p n +ℤ contact_weight w i p n
weight_among-more w i p n =
    let add : ℤ → ℕ → ℤ = λ sum j. sum +ℤ contact_weight w i p j in
    let more = map-range_with_len_more (λ (j : ℕ). j) 0 n n (omega arith) in
    let listed : range_with_len 0 (n + 1) ≡ range_with_len 0 n ++ n ∷ [] = simp map-id at more in
    ap (fold add (pos 0)) listed ∙ fold_push add (pos 0) (range_with_len 0 n) n

-- a class is within its limit
class_of-limit : (label : ℕ) → class_of label ≤ GREATEST_CLASS
class_of-limit label = grind arith

-- a monomer without a class has no contact that weighs anything
contact_weight-unclassed : (w : Configuration) (i : ℕ) (p : P3) (j : ℕ) → IsContactTable w.table → class_at w i ≡ 0 → contact_weight w i p j ≡ pos 0
contact_weight-unclassed w i p j t none =
    let nothing : weight_of w.table (class_at w i) (class_at w j) ≡ pos 0 =
    ap (λ a. weight_of w.table a (class_at w j)) none ∙ t.unclassed (class_at w j) (class_of-limit (label_of w j)) in
    grind (arith, common_steps, nothing)

-- so all of them together weigh nothing
weight_among-unclassed : (w : Configuration) (i : ℕ) (p : P3) (n : ℕ) → IsContactTable w.table → class_at w i ≡ 0 → weight_among w i p n ≡ pos 0
weight_among-unclassed w i p zero t none = refl
weight_among-unclassed w i p (suc n) t none =
    ap (weight_among w i p) (sym (add-one n))
    ∙ (weight_among-more w i p n ∙ rw (weight_among-unclassed w i p n t none, contact_weight-unclassed w i p n t none) refl)

pub weight_at-unclassed : (w : Configuration) (i : ℕ) (p : P3) → IsContactTable w.table → class_at w i ≡ 0 → weight_at w i p ≡ pos 0
weight_at-unclassed w i p t none = weight_among-unclassed w i p (length w.positions) t none
