-- Tables that are written line by line.
use Rattle.std.proofs.Common.{◌≡◌, ◌∙◌, ℕ, zero, suc, ◌+◌, ◌-◌, ◌<◌, ◌≤◌, List, [], ◌∷◌, ◌++◌, codes, length, take, drop, get_or, Result, Err, refl, ap, sym, subst, arith}
use Rattle.std.specs.List.{flat_map, range_with_len}
use Rattle.std.proofs.Concat.{flat_map-take_more}
use Rattle.std.proofs.lemmas.List.Elements.{All-get_or}
use Rattle.std.proofs.lemmas.List.{take_all}
use Rattle.std.proofs.lemmas.List.FromFn.{get_or-range_with_len, length-range_with_len}
use Rattle.bfm_base.specs.Account.{Account, FailedCall, TookAll, TookPrefix}
use Rattle.bfm_base.proofs.SendLemmas.{TookAll-append, TookPrefix-append, TookPrefix-flushed, TookPrefix-later}
use Rattle.bfm_base.proofs.PieceLemmas.{flat_map-around}
use Rattle.bfm_world.specs.Configuration.{Configuration}
use Rattle.bfm_world.proofs.BondLemmas.{IsDistinct-from_ascending}
use Rattle.chain_stats.specs.Fractions.{AreMembers}
use Rattle.chain_stats.specs.Molecules.{AreMolecules, IsMolecule}
use Rattle.cluster_stats.specs.Contacts.{AreContactCounts, ContactTally, contact_total, count_of}
use Rattle.bfm_session.specs.Analysis.{Answers}
use Rattle.bfm_session.specs.NumberLines.{number_line}
use Rattle.bfm_session.specs.Tables.{class_line, classes_from, contacts_text, count_lines, size_line}
use Rattle.bfm_session.specs.declared.analysis.AskFault.{AskFault}
use Rattle.bfm_session.specs.declared.analysis.AskFault.TheVariants.{WriteFault, Memory}

module _ {X : Type 0} (line : X → List ℕ) (xs : List X) (i : ℕ) (d : X) (inside : i < length xs) (a b c : Account) (before : TookAll a b (flat_map line (take i xs))) where
  -- one more line
  pub TookAll-line : (text : List ℕ) → text ≡ line (get_or xs i d) → TookAll b c text → TookAll a c (flat_map line (take (i + 1) xs))
  TookAll-line text is taken =
      subst (TookAll a c) (flat_map-take_more line xs i d inside) (TookAll-append a b c _ _ before (subst (TookAll b c) is taken))

  -- a prefix of it, and no more
  pub TookPrefix-line : (text : List ℕ) → text ≡ line (get_or xs i d) → TookPrefix b c text → TookPrefix a c (flat_map line xs)
  TookPrefix-line text is part =
      subst (TookPrefix a c) (sym (flat_map-around line xs i d inside))
      (TookPrefix-append a c _ (flat_map line (drop (i + 1) xs)) (TookPrefix-later a b c _ _ before (subst (TookPrefix b c) is part)))

-- the members of a molecule are monomers of its world
pub members-molecule : (w : Configuration) (molecules : List (List ℕ)) (k : ℕ) → AreMolecules w molecules → k < length molecules → AreMembers w (get_or molecules k [])
members-molecule w molecules k m inside =
    let molecule = All-get_or (IsMolecule w) molecules k [] inside m.each in
    record { some = molecule.some; there = molecule.monomers; each_once = IsDistinct-from_ascending _ molecule.ascending }

-- the classes from one on, by their places
pub class-inside : (a b : ℕ) → a ≤ b → b ≤ 15 → b - a < length (classes_from a)
class-inside a b l h = omega (arith, l, h, length-range_with_len a (16 - a))

pub class-at : (a b d : ℕ) → a ≤ b → b ≤ 15 → get_or (classes_from a) (b - a) d ≡ b
class-at a b d l h = grind (arith, get_or-range_with_len a (16 - a) (b - a) d (omega (arith, l, h)), l)

pub classes-all : (a b : ℕ) → a ≤ b → 16 ≤ b → take (b - a) (classes_from a) ≡ classes_from a
classes-all a b l h = take_all (b - a) (classes_from a) (omega (arith, l, h, length-range_with_len a (16 - a)))

-- the rows of sizes, as they are shown
module _ (shown rows : List (ℕ × ℕ)) (same : shown ≡ rows) (i : ℕ) (inside : i < length shown) (a b c : Account) (before : TookAll a b (flat_map size_line (take i rows))) where
  rows-inside : i < length rows
  rows-inside = subst (λ rows. i < length rows) same inside

  line-same : size_line (get_or shown i (0, 0)) ≡ size_line (get_or rows i (0, 0))
  line-same = ap (λ rows. size_line (get_or rows i (0, 0))) same

  pub TookAll-row : TookAll b c (size_line (get_or shown i (0, 0))) → TookAll a c (flat_map size_line (take (i + 1) rows))
  TookAll-row taken = TookAll-line size_line rows i (0, 0) rows-inside a b c before _ line-same taken

  pub TookPrefix-row : TookPrefix b c (size_line (get_or shown i (0, 0))) → TookPrefix a c (flat_map size_line rows)
  TookPrefix-row part = TookPrefix-line size_line rows i (0, 0) rows-inside a b c before _ line-same part

-- all classes, by their places
pub first-inside : (a : ℕ) → a ≤ 15 → a < length (classes_from 0)
first-inside a h = omega (arith, h, length-range_with_len 0 16)

pub first-at : (a d : ℕ) → a ≤ 15 → a ≡ get_or (classes_from 0) a d
first-at a d h = sym (get_or-range_with_len 0 16 a d (omega (arith, h)) ∙ omega arith)

pub first-all : (a : ℕ) → 16 ≤ a → take a (classes_from 0) ≡ classes_from 0
first-all a h = take_all a (classes_from 0) (omega (arith, h, length-range_with_len 0 16))

-- the same lines where two functions agree on all classes
range-same : (f g : ℕ → List ℕ) (a n : ℕ) → ((b : ℕ) → b < a + n → f b ≡ g b) → flat_map f (range_with_len a n) ≡ flat_map g (range_with_len a n)
range-same f g a zero h = refl
range-same f g a (suc n) h =
    ap (λ text. text ++ flat_map f (range_with_len (a + 1) n)) (h a (omega arith))
    ∙ ap (λ text. g a ++ text) (range-same f g (a + 1) n (λ b l. h b (omega (arith, l))))

-- the counts are told of contacts as they are
pub contacts-same : (w : Configuration) (tally : ContactTally) → AreContactCounts w tally → count_lines (count_of tally) tally.total ≡ contacts_text w
contacts-same w tally h =
    ap (λ total. count_lines (count_of tally) total) h.total
    ∙ ap (λ text. text ++ number_line (codes "total") (contact_total w ∷ []))
    (range-same _ _ 0 16 (λ a l. range-same _ _ a (16 - a) (λ b m. ap (class_line a b) (h.counts a b (omega (arith, l)) (omega (arith, l, m))))))

-- why an answer was not given: memory was wanting, a call failed before the whole text was taken, or the flush behind it failed
pub Answers-memory : (r : Result (Unit {0}) AskFault) (fault : AskFault) (a c : Account) (text : List ℕ) (untouched : Type 0)
    → r ≡ Err fault → fault ≡ Memory → untouched → Answers r text a c untouched
Answers-memory r fault a c text untouched is memory same = rw is (rw memory same)

pub Answers-write : (r : Result (Unit {0}) AskFault) (fault : AskFault) (a c : Account) (text : List ℕ) (untouched : Type 0)
    → r ≡ Err fault → fault ≡ WriteFault → TookPrefix a c text → Answers r text a c untouched
Answers-write r fault a c text untouched is write part = rw is (rw write part)

pub Answers-flush : (r : Result (Unit {0}) AskFault) (fault : AskFault) (a b c : Account) (text : List ℕ) (untouched : Type 0)
    → r ≡ Err fault → fault ≡ WriteFault → TookAll a b text → FailedCall b c → Answers r text a c untouched
Answers-flush r fault a b c text untouched is write taken failed = Answers-write r fault a c text untouched is write (TookPrefix-flushed a b c text taken failed)
