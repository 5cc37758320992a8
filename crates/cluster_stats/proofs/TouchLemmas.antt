-- The lists of contacts, taken as bonds, and what the search for clusters keeps while it looks at one offset after the other.
use Rattle.std.proofs.Common.{◌≡◌, ℕ, ◌+◌, ◌<◌, ◌≤◌, ⊎_elim, true, List, [], length, get_or, sym, ap, subst, ◌∙◌, arith, ℤ}
use Rattle.std.specs.List.{Contains, filter, range_with_len}
use Rattle.std.proofs.Math.ListN.{set}
use Rattle.std.proofs.lemmas.Bool.{cases_lt}
use Rattle.std.proofs.lemmas.List.{get_or_default, get_or_past}
use Rattle.std.proofs.lemmas.List.FromFn.{length-map-range_with_len, get_or-map-range_with_len}
use Rattle.std.proofs.lemmas.List.Elements.{All-contains, All-filter, filter_passes}
use Rattle.bfm_base.specs.declared.place.P3.{P3}
use Rattle.bfm_geom.specs.Difference.{HasSides, is_contact_square, square_of}
use Rattle.bfm_geom.proofs.ContactLemmas.{contact-symmetric}
use Rattle.bond_set.proofs.ListLemmas.{Contains-filter}
use Rattle.bfm_world.specs.Bonds.{are_bonded, neighbours_of}
use Rattle.bfm_world.specs.Configuration.{Configuration, position_of}
use Rattle.bfm_world.proofs.BondLemmas.{Contains-has, has-Contains}
use Rattle.chain_stats.specs.Search.{root_of}
use Rattle.chain_stats.proofs.GroupLemmas.{range_below}
use Rattle.chain_stats.proofs.MoleculeLemmas.{in_range}
use Rattle.chain_stats.proofs.SearchLemmas.{AreMutual, found_after, no_member}
use Rattle.cluster_stats.specs.declared.shell.TheConstants.{SHELL}
use Rattle.cluster_stats.specs.Clusters.{contact_lists}
use Rattle.cluster_stats.specs.Contacts.{touch}
use Rattle.cluster_stats.specs.Places.{vector_of, vector_to}
use Rattle.cluster_stats.proofs.ShellLemmas.{shell_contact, shell_index}

module _ (w : Configuration) where
  abbrev count : ℕ
  count = length w.positions

  abbrev monomers : List ℕ
  monomers = range_with_len 0 count

  -- the list of a monomer, and none beyond the last monomer
  list_of : (i : ℕ) → i < count → neighbours_of (contact_lists w) i ≡ filter (touch w i) monomers
  list_of i l = get_or-map-range_with_len (λ k. filter (touch w k) monomers) 0 count i i [] l (omega arith)

  no_list : (i : ℕ) → count ≤ i → neighbours_of (contact_lists w) i ≡ []
  no_list i l = get_or_past (contact_lists w) i [] (omega (arith, length-map-range_with_len (λ k. filter (touch w k) monomers) 0 count))

  -- a list holds the monomers in contact
  pub listed-touch : (i j : ℕ) → i < count → j < count → touch w i j ≡ true → are_bonded (contact_lists w) i j ≡ true
  listed-touch i j l m h =
      Contains-has (neighbours_of (contact_lists w) i) j
      (subst (λ (row : List ℕ). Contains row j) (sym (list_of i l)) (Contains-filter (touch w i) monomers j (in_range count j m) h))

  -- and no others
  pub touch-listed : (i j : ℕ) → are_bonded (contact_lists w) i j ≡ true → (i < count) × (j < count) × (touch w i j ≡ true)
  touch-listed i j h =
      let held = has-Contains (neighbours_of (contact_lists w) i) j h in
      ⊎_elim
      (λ l.
      let kept : Contains (filter (touch w i) monomers) j = subst (λ (row : List ℕ). Contains row j) (list_of i l) held in (
        l,
        All-contains (λ k. k < count) (filter (touch w i) monomers) j (All-filter (touch w i) (λ k. k < count) monomers (range_below count)) kept,
        All-contains (λ k. touch w i k ≡ true) (filter (touch w i) monomers) j (filter_passes (touch w i) monomers) kept,
      ))
      (λ l. absurd (no_member j (subst (λ (row : List ℕ). Contains row j) (no_list i l) held)))
      (cases_lt i count)

  -- contact is mutual
  pub AreMutual-contacts : HasSides w.shape → AreMutual count (contact_lists w)
  AreMutual-contacts sides = record {
    both = λ i j h. let t = touch-listed i j h in listed-touch j i t.1 t.0 (contact-symmetric w.shape (position_of w j) (position_of w i) sides ∙ t.2);
    others = λ i j h. (touch-listed i j h).1;
  }

-- the monomers that stand at the first m offsets from monomer i are found
abbrev pub AreReached : Configuration → List ℕ → ℕ → ℕ → Type 0
AreReached w roots i m =
    (k : ℕ) → k < m → (d : List ℤ) → (j : ℕ) → j < length w.positions → vector_to w i j ≡ vector_of (get_or SHELL k d) → root_of roots j < length w.positions

module _ (w : Configuration) (i m : ℕ) (roots : List ℕ) (d : List ℤ) (within : m < length SHELL) (reached : AreReached w roots i m) where
  -- nobody stands at the next offset
  pub AreReached-free : ((j : ℕ) → j < length w.positions → vector_to w i j ≡ vector_of (get_or SHELL m d) → ⊥) → AreReached w roots i (m + 1)
  AreReached-free none k l e j s v =
      ⊎_elim
      (λ b. reached k b e j s v)
      (λ a. let same : k ≡ m = omega arith in absurd (none j s (v ∙ at_next k e same)))
      (cases_lt k m)
    where
      at_next : (k : ℕ) (e : List ℤ) → k ≡ m → vector_of (get_or SHELL k e) ≡ vector_of (get_or SHELL m d)
      at_next k e same = ap (λ (n : ℕ). vector_of (get_or SHELL n e)) same ∙ ap vector_of (get_or_default SHELL m e d within)

  -- the one who does is found, and was so before
  pub AreReached-still : (j : ℕ) → ((k : ℕ) → k < length w.positions → vector_to w i k ≡ vector_of (get_or SHELL m d) → k ≡ j) → root_of roots j < length w.positions
      → AreReached w roots i (m + 1)
  AreReached-still j only old k l e n s v =
      ⊎_elim
      (λ b. reached k b e n s v)
      (λ a.
      let same : k ≡ m = omega arith in
      let there : n ≡ j = only n s (v ∙ (ap (λ (n : ℕ). vector_of (get_or SHELL n e)) same ∙ ap vector_of (get_or_default SHELL m e d within))) in
      subst (λ (q : ℕ). root_of roots q < length w.positions) (sym there) old)
      (cases_lt k m)

-- who is found stays found
pub AreReached-set : (w : Configuration) (i m number j : ℕ) (roots : List ℕ) → number < length w.positions → j < length roots → AreReached w roots i m → AreReached w (set roots j number) i m
AreReached-set w i m number j roots s l reached k b e n r v = found_after (length w.positions) roots j number n s l (reached k b e n r v)

-- after all offsets those in contact with the monomer are found
pub AreReached-all : (w : Configuration) (i : ℕ) (roots : List ℕ) → AreReached w roots i (length SHELL) → (j : ℕ) → are_bonded (contact_lists w) i j ≡ true → root_of roots j < length w.positions
AreReached-all w i roots reached j h =
    let t = touch-listed w i j h in
    let place = shell_index (vector_to w i j) t.2 in
    reached place.0 place.1 [] j t.1 (sym (place.2 []))

-- who stands at an offset of the table is in contact
pub touch-offset : (w : Configuration) (i j m : ℕ) (d : List ℤ) → m < length SHELL → vector_to w i j ≡ vector_of (get_or SHELL m d) → touch w i j ≡ true
touch-offset w i j m d l v = ap (λ (u : P3). is_contact_square (square_of u)) v ∙ shell_contact m d l
