-- A run that was cut at any byte goes on.
use Rattle.std.proofs.Common.{◌≡◌, ℕ, zero, suc, ◌+◌, ◌-◌, ◌<◌, ◌≤◌, true, false, nat_lt, List, [], ◌++◌, length, take, drop, Ok, sym, ap, ◌∙◌, ⊎_elim, append_assoc, append-nil, length-append, arith}
use Rattle.std.proofs.lemmas.Bool.{cases_Bool}
use Rattle.std.proofs.lemmas.Bool.Decides.{nat_tests}
use Rattle.std.proofs.lemmas.List.{nil_from_length, take-append-drop, take-append-le, take_all, take_at}
use Rattle.std.proofs.Math.Seq.{take-append_seam}
use Rattle.bfm_world.specs.Configuration.{IsValid}
use Rattle.bfm_commands.specs.Verdict.{verdict_of}
use Rattle.bfm_commands.specs.declared.loaded.Loaded.{Loaded}
use Rattle.sweep_run.specs.Sweep.{begun_with}
use Rattle.bfm_session.specs.Running.{groups_text, is_too_far, run_text}
use Rattle.bfm_session.specs.Parts.{AreParts, BeginsWith, Finishes, FinishesFromEachFront, HasGroups, with_frames}
use Rattle.bfm_session.specs.declared.order.RunOrder.{RunOrder}
use Rattle.bfm_session.proofs.CutLines.{verdict_of-cut}
use Rattle.bfm_session.proofs.PartsRun.{in_parts}
use Rattle.bfm_session.proofs.PartsSweeps.{groups_text-frames}
use Rattle.bfm_session.proofs.TextLemmas.{groups_text-front}

-- Fronts.

-- of two fronts of a text, the longer begins with the shorter
BeginsWith-front : (xs ys a b : List ℕ) → xs ++ a ≡ ys ++ b → length xs ≤ length ys → BeginsWith ys xs
BeginsWith-front xs ys a b e l =
    let part : take (length xs) ys ≡ xs = sym (take-append-le (length xs) ys b l) ∙ (ap (take (length xs)) (sym e) ∙ take-append_seam xs a) in
    record { rest = drop (length xs) ys; whole = sym (take-append-drop (length xs) ys) ∙ ap (λ l. l ++ drop (length xs) ys) part }

BeginsWith-then : (xs ys zs : List ℕ) → BeginsWith xs ys → BeginsWith ys zs → BeginsWith xs zs
BeginsWith-then xs ys zs a b = record { rest = b.rest ++ a.rest; whole = a.whole ∙ (ap (λ l. l ++ a.rest) b.whole ∙ append_assoc zs b.rest a.rest) }

-- a text is no longer than what begins with it
BeginsWith-length : (xs ys : List ℕ) → BeginsWith xs ys → length ys ≤ length xs
BeginsWith-length xs ys b = omega (arith, ap length b.whole, length-append ys b.rest)

-- of the same length, it is the same
BeginsWith-all : (xs ys : List ℕ) → BeginsWith xs ys → length xs ≤ length ys → ys ≡ xs
BeginsWith-all xs ys b l =
    let none = nil_from_length b.rest (omega (arith, ap length b.whole, length-append ys b.rest, l)) in
    sym (b.whole ∙ (ap (λ r. ys ++ r) none ∙ append-nil ys))

-- Where texts grow one behind another, a front of the last one, which begins with the first, is cut at its end or before the end
-- of one of them.
data CutAt (texts : ℕ → List ℕ) (last : ℕ) (front : List ℕ) : Type 0 where
  at_end : front ≡ texts last → CutAt texts last front
  inside : (n : ℕ) → n < last → BeginsWith front (texts n) → BeginsWith (texts (suc n)) front → length front < length (texts (suc n)) → CutAt texts last front

module _ (texts : ℕ → List ℕ) (grow : (n : ℕ) → BeginsWith (texts (suc n)) (texts n)) (front : List ℕ) (begins : BeginsWith front (texts zero)) where
  cut_at : (last : ℕ) → BeginsWith (texts last) front → CutAt texts last front
  cut_at zero whole = at_end (sym (BeginsWith-all front (texts zero) begins (BeginsWith-length (texts zero) front whole)))
  cut_at (suc n) whole =
      ⊎_elim
      (λ (less : nat_lt (length front) (length (texts (suc n))) ≡ true).
      let short : length front < length (texts (suc n)) = grind (arith, nat_tests) in
      ⊎_elim
      (λ (here : nat_lt (length front) (length (texts n)) ≡ true).
      let shorter : length front < length (texts n) = grind (arith, nat_tests) in
      earlier shorter (cut_at n (BeginsWith-front front (texts n) whole.rest (grow n).rest (sym whole.whole ∙ (grow n).whole) (omega (arith, shorter)))))
      (λ (past : nat_lt (length front) (length (texts n)) ≡ false).
      let longer : length (texts n) ≤ length front = grind (arith, nat_tests) in
      inside n (omega arith) (BeginsWith-front (texts n) front (grow n).rest whole.rest (sym (grow n).whole ∙ whole.whole) longer) whole short)
      (cases_Bool (nat_lt (length front) (length (texts n)))))
      (λ (all : nat_lt (length front) (length (texts (suc n))) ≡ false).
      let full : length (texts (suc n)) ≤ length front = grind (arith, nat_tests) in
      at_end (BeginsWith-all (texts (suc n)) front whole full))
      (cases_Bool (nat_lt (length front) (length (texts (suc n)))))
    where
      earlier : length front < length (texts n) → CutAt texts n front → CutAt texts (suc n) front
      earlier l (at_end e) = absurd (omega (arith, l, ap length e))
      earlier l (inside m less a b s) = inside m (omega (arith, less)) a b s

-- The run.

-- what is left of an output is loaded as this, but for how long it is and how many commands were skipped
record LoadsAs (front : List ℕ) (loaded : Loaded) : Type 0 where
  total : ℕ
  skipped : ℕ
  accepted : verdict_of front ≡ Ok (record loaded { total = total; skipped = skipped })

module _ (bytes : List ℕ) (loaded : Loaded) (order : RunOrder) (verdict : verdict_of bytes ≡ Ok loaded) (ok : IsValid loaded.world) (near : is_too_far loaded order ≡ false) where
  abbrev kept : List ℕ
  kept = take loaded.kept bytes

  -- the text of the first groups
  abbrev text : ℕ → List ℕ
  text n = run_text loaded (with_frames order n) (take loaded.kept bytes)

  text-front : (a b : ℕ) → a ≤ b → BeginsWith (text b) (text a)
  text-front a b l =
      let start = begun_with loaded.world in
      let longer = groups_text-front order loaded.mcs a b start l in
      record {
        rest = longer.0;
        whole = ap (λ t. kept ++ t) (groups_text-frames order b loaded.mcs b start ∙ (longer.1 ∙ ap (λ t. t ++ longer.0) (sym (groups_text-frames order a loaded.mcs a start))))
            ∙ sym (append_assoc kept (groups_text (with_frames order a) loaded.mcs a start) longer.0);
      }

  halves : (n : ℕ) → n ≤ order.frames → AreParts loaded kept (with_frames order n) (with_frames order (order.frames - n)) order
  halves n l = let all : n + (order.frames - n) ≡ order.frames = omega arith in in_parts bytes loaded order verdict ok near n (order.frames - n) all

  -- no other number of groups is in a front
  only : (front : List ℕ) (n m : ℕ) → HasGroups loaded order kept front n → HasGroups loaded order kept front m → n < m → ⊥
  only front n m a b l =
      let within = b.within in
      a.no_more (omega (arith, within)) (BeginsWith-then front (text m) (text (n + 1)) b.begins (text-front (n + 1) m (omega arith)))

  same_groups : (front : List ℕ) (n m : ℕ) → HasGroups loaded order kept front n → HasGroups loaded order kept front m → m ≡ n
  same_groups front n m a b =
      ⊎_elim (λ (less : nat_lt n m ≡ true). let l : n < m = grind (arith, nat_tests) in absurd (only front n m a b l))
      (λ (most : nat_lt n m ≡ false).
      ⊎_elim (λ (more : nat_lt m n ≡ true). let l : m < n = grind (arith, nat_tests) in absurd (only front m n b a l))
      (λ (least : nat_lt m n ≡ false). grind (arith, nat_tests))
      (cases_Bool (nat_lt m n)))
      (cases_Bool (nat_lt n m))

  finishes : (front : List ℕ) (n : ℕ) (l : n ≤ order.frames) → BeginsWith front (text n) → LoadsAs front (halves n l).goes_on.next → Finishes loaded order kept front n
  finishes front n l begins loads =
      let parts = halves n l in
      let next = parts.goes_on.next in
      let size : length (text n) ≡ next.kept = sym parts.goes_on.kept in
      let here : take next.kept front ≡ take next.kept (text n) =
      ap (take next.kept) begins.whole ∙ (take_at (text n) begins.rest next.kept size ∙ sym (take_all next.kept (text n) (omega (arith, size)))) in
      record {
        next = record next { total = loads.total; skipped = loads.skipped };
        accepted = loads.accepted;
        world = parts.goes_on.world;
        mcs = parts.goes_on.mcs;
        first = parts.goes_on.first;
        frames = parts.goes_on.frames;
        keeps = parts.goes_on.kept;
        near = parts.second_near;
        same = ap (run_text next (with_frames order (order.frames - n))) here ∙ parts.same;
        time = parts.time;
        moves = parts.moves;
        links = parts.links;
      }

  whole_run : (front : List ℕ) → front ≡ text order.frames → HasGroups loaded order kept front order.frames × Finishes loaded order kept front order.frames
  whole_run front e =
      let l : order.frames ≤ order.frames = omega arith in
      let begins : BeginsWith front (text order.frames) = record { rest = []; whole = e ∙ sym (append-nil (text order.frames)) } in
      let goes = (halves order.frames l).goes_on in (
        record { within = l; begins = begins; no_more = λ less. absurd (omega (arith, less)) },
        finishes front order.frames l begins (record { total = goes.next.total; skipped = goes.next.skipped; accepted = ap verdict_of e ∙ goes.accepted }),
      )

  module _ (front : List ℕ) (n : ℕ) (less : n < order.frames) (begins : BeginsWith front (text n)) (more : BeginsWith (text (suc n)) front) (short : length front < length (text (suc n))) where
    loads_part : (l : n ≤ order.frames) → LoadsAs front (halves n l).goes_on.next
    loads_part l =
        let old = (halves n l).goes_on in
        let new = (halves (suc n) (omega arith)).goes_on in
        let same : text (suc n) ≡ (text n ++ begins.rest) ++ more.rest = more.whole ∙ ap (λ t. t ++ more.rest) begins.whole in
        let one : new.next.frames ≡ old.next.frames + 1 = omega (arith, new.frames, old.frames) in
        let read = verdict_of-cut (text n) begins.rest more.rest old.next new.next old.accepted (ap verdict_of (sym same) ∙ new.accepted) one
        (new.kept ∙ ap length same) (omega (arith, short, ap length begins.whole, ap length same)) in
        record { total = _; skipped = _; accepted = ap verdict_of begins.whole ∙ read }

    part_of_run : HasGroups loaded order kept front n × Finishes loaded order kept front n
    part_of_run =
        let l : n ≤ order.frames = omega (arith, less) in
        let next : n + 1 ≡ suc n = omega arith in (
          record {
            within = l;
            begins = begins;
            no_more = λ _ again. absurd (let longer = BeginsWith-length front (text (n + 1)) again in omega (arith, longer, short, ap (λ k. length (text k)) next));
          },
          finishes front n l begins (loads_part l),
        )

  pub cut_run : FinishesFromEachFront loaded order kept
  cut_run front begins whole =
      let none : BeginsWith front (text zero) = record { rest = begins.rest; whole = begins.whole ∙ ap (λ k. k ++ begins.rest) (sym (append-nil kept)) } in
      let all : BeginsWith (text order.frames) front =
      record { rest = whole.rest; whole = ap (λ t. kept ++ t) (groups_text-frames order order.frames loaded.mcs order.frames (begun_with loaded.world)) ∙ whole.whole } in
      by_place (cut_at text (λ n. text-front n (suc n) (omega arith)) front none order.frames all)
    where
      found : (n : ℕ) → HasGroups loaded order kept front n × Finishes loaded order kept front n
          → (groups : ℕ) × HasGroups loaded order kept front groups × Finishes loaded order kept front groups × ((m : ℕ) → HasGroups loaded order kept front m → m ≡ groups)
      found n both = (n, both.0, both.1, λ m has. same_groups front n m both.0 has)

      by_place : CutAt text order.frames front
          → (groups : ℕ) × HasGroups loaded order kept front groups × Finishes loaded order kept front groups × ((m : ℕ) → HasGroups loaded order kept front m → m ≡ groups)
      by_place (at_end e) = found order.frames (whole_run front e)
      by_place (inside n less a b short) = found n (part_of_run front n less a b short)
