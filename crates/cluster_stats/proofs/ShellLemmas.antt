-- The table of differences of monomers in contact: each difference whose squared length is 4, 5 or 6 stands there once, and
-- no other.
use Rattle.std.proofs.Common.{◌≡◌, ℕ, zero, suc, ◌<◌, ◌≤◌, ⊎_elim, Bool, true, cond, List, [], ◌∷◌, length, get_or, nat_le, nat_eq, refl, sym, ap, subst, ◌∙◌, arith, ℤ, pos, negsuc, nat_abs}
use Rattle.std.specs.List.{count_by, list_all}
use Rattle.std.proofs.lemmas.Int.{ints}
use Rattle.std.proofs.lemmas.Bool.{cases_Bool, cases_lt, leb-true}
use Rattle.std.proofs.lemmas.List.Sums.{AllPass-from_list_all}
use Rattle.bfm_base.specs.declared.place.P3.{P3}
use Rattle.bfm_base.specs.Place.{extent_of}
use Rattle.bfm_geom.specs.Difference.{is_contact_square, square_of}
use Rattle.bfm_geom.proofs.ContactLemmas.{no_contact_far}
use Rattle.bond_set.specs.BondSet.{same_vector}
use Rattle.bond_set.proofs.PairLemmas.{same_from_same_vector}
use Rattle.chain_stats.proofs.MoleculeLemmas.{same_numbers}
use Rattle.cluster_stats.specs.declared.shell.TheConstants.{SHELL}
use Rattle.cluster_stats.specs.Places.{vector_of}
use Rattle.cluster_stats.proofs.CountLemmas.{count_by-none, some_counted}

-- each is at most 2 along each axis
shell_short : list_all (λ o. nat_le (extent_of (vector_of o)) 2) SHELL ≡ true
shell_short = refl

pub short_at : (k : ℕ) (d : List ℤ) → k < length SHELL → extent_of (vector_of (get_or SHELL k d)) ≤ 2
short_at k d h = leb-true (extent_of (vector_of (get_or SHELL k d))) 2 (AllPass-from_list_all (λ o. nat_le (extent_of (vector_of o)) 2) SHELL shell_short k d h)

-- how often a vector stands there
abbrev times : P3 → ℕ
times v = count_by (λ o. same_vector v (vector_of o)) SHELL

-- all components of at most 2, and what is tried of each three of them
abbrev components : List ℤ
components = negsuc 1 ∷ negsuc 0 ∷ pos 0 ∷ pos 1 ∷ pos 2 ∷ []

abbrev is_once : ℤ → ℤ → ℤ → Bool
is_once x y z = nat_eq (times (record { x = x; y = y; z = z })) (cond (is_contact_square (square_of (record { x = x; y = y; z = z }))) 1 0)

all_tried : list_all (λ x. list_all (λ y. list_all (λ z. is_once x y z) components) components) components ≡ true
all_tried = refl

component_at : (c : ℤ) → nat_abs c ≤ 2 → (k : ℕ) × (k < 5) × (get_or components k (pos 0) ≡ c)
component_at (pos zero) h = (2, omega arith, refl)
component_at (pos (suc zero)) h = (3, omega arith, refl)
component_at (pos (suc (suc zero))) h = (4, omega arith, refl)
component_at (pos (suc (suc (suc n)))) h = absurd (omega (arith, ints))
component_at (negsuc zero) h = (1, omega arith, refl)
component_at (negsuc (suc zero)) h = (0, omega arith, refl)
component_at (negsuc (suc (suc n))) h = absurd (omega (arith, ints))

of_component : (p : ℤ → Bool) → list_all p components ≡ true → (c : ℤ) → nat_abs c ≤ 2 → p c ≡ true
of_component p h c l =
    let k = component_at c l in
    subst (λ (d : ℤ). p d ≡ true) k.2 (AllPass-from_list_all p components h k.0 (pos 0) k.1)

once_short : (v : P3) → extent_of v ≤ 2 → times v ≡ cond (is_contact_square (square_of v)) 1 0
once_short v l =
    let x = of_component (λ x. list_all (λ y. list_all (λ z. is_once x y z) components) components) all_tried v.x (omega (arith, l)) in
    let y = of_component (λ y. list_all (λ z. is_once v.x y z) components) x v.y (omega (arith, l)) in
    let z = of_component (λ z. is_once v.x v.y z) y v.z (omega (arith, l)) in
    same_numbers (times v) (cond (is_contact_square (square_of v)) 1 0) z

never_long : (v : P3) → 2 < extent_of v → times v ≡ 0
never_long v l =
    count_by-none (λ o. same_vector v (vector_of o)) SHELL (λ k d h.
    ⊎_elim
    (λ yes. absurd (let e = ap extent_of (same_from_same_vector v (vector_of (get_or SHELL k d)) yes) in omega (arith, e, short_at k d h, l)))
    (λ no. no)
    (cases_Bool (same_vector v (vector_of (get_or SHELL k d)))))

-- a vector stands there once where monomers at this difference are in contact, else never
pub times-is : (v : P3) → count_by (λ o. same_vector v (vector_of o)) SHELL ≡ cond (is_contact_square (square_of v)) 1 0
times-is v =
    ⊎_elim (λ l. never_long v l ∙ sym (ap (λ b. cond b 1 0) (no_contact_far v l))) (λ l. once_short v l) (cases_lt 2 (extent_of v))

-- so it stands there at some place
pub shell_index : (v : P3) → is_contact_square (square_of v) ≡ true → (k : ℕ) × (k < length SHELL) × ((d : List ℤ) → vector_of (get_or SHELL k d) ≡ v)
shell_index v h =
    let one : times v ≡ 1 = times-is v ∙ ap (λ b. cond b 1 0) h in
    let found = some_counted (λ o. same_vector v (vector_of o)) SHELL (omega (arith, one)) in
    (found.0, found.1, λ d. sym (same_from_same_vector v (vector_of (get_or SHELL found.0 d)) (found.2 d)))

-- what stands there makes a contact
pub shell_contact : (k : ℕ) (d : List ℤ) → k < length SHELL → is_contact_square (square_of (vector_of (get_or SHELL k d))) ≡ true
shell_contact k d h = AllPass-from_list_all (λ o. is_contact_square (square_of (vector_of o))) SHELL all_contacts k d h
  where
    all_contacts : list_all (λ o. is_contact_square (square_of (vector_of o))) SHELL ≡ true
    all_contacts = refl
