use Rattle.std.proofs.Common.{◌≡◌, ◌≤◌, arith, ℤ, pos, negsuc, nat_abs, ◌+ℤ◌, ◌-ℤ◌, ◌≤ℤ◌, FitsSigned, to_z, of_z, w64}
use Rattle.std.proofs.lemmas.Int.{ints}
use Rattle.crossing_check.proofs.BoxLemmas.{MeetAlong-low, MeetAlong-high}
use Rattle.crossing_check.proofs.passage.span_of_starts.Goals as goal

-- what the code's difference gives, and one more than that
difference : (a b : ℤ) → nat_abs a ≤ 3 → nat_abs b ≤ 3 → to_z w64 (of_z w64 (to_z w64 (of_z w64 a) -ℤ to_z w64 (of_z w64 b))) ≡ a -ℤ b
difference a b h k = omega (arith, ints)

next : (a b : ℤ) → nat_abs a ≤ 3 → nat_abs b ≤ 3 → to_z w64 (of_z w64 ((a -ℤ b) +ℤ pos 1)) ≡ (a -ℤ b) +ℤ pos 1
next a b h k = omega (arith, ints)

next-fits : (a b : ℤ) → nat_abs a ≤ 3 → nat_abs b ≤ 3 → FitsSigned w64 ((a -ℤ b) +ℤ pos 1)
next-fits a b h k = omega (arith, ints)

small : (a : ℤ) → negsuc 2 ≤ℤ a → a ≤ℤ pos 3 → nat_abs a ≤ 3
small a h k = omega (arith, ints)

-- the four numbers are small
low : (c : goal.After-lowest-2) → nat_abs c.lowest.result ≤ 3
low c = small _ c.lowest.ensures.reach (omega (arith, ints, c.lowest.ensures.least))

high : (c : goal.After-lowest-2) → nat_abs c.highest.result ≤ 3
high c = small _ (omega (arith, ints, c.highest.ensures.greatest)) c.highest.ensures.reach

low-2 : (c : goal.After-lowest-2) → nat_abs c.lowest-2.result ≤ 3
low-2 c = small _ c.lowest-2.ensures.reach (omega (arith, ints, c.lowest-2.ensures.least))

high-2 : (c : goal.After-lowest-2) → nat_abs c.highest-2.result ≤ 3
high-2 c = small _ (omega (arith, ints, c.highest-2.ensures.greatest)) c.highest-2.ensures.reach

pub overflow_add-result : goal.overflow_add-result
overflow_add-result c =
    rw (difference c.highest-2.result c.lowest-2.result (high-2 c) (low-2 c)) (next-fits c.highest-2.result c.lowest-2.result (high-2 c) (low-2 c))

pub returns-clause-all_starts : goal.returns-clause-all_starts
returns-clause-all_starts c start m =
    let below = c.lowest.ensures.least in
    let above = c.highest.ensures.greatest in
    let below-2 = c.lowest-2.ensures.least in
    let above-2 = c.highest-2.ensures.greatest in
    let from = MeetAlong-low c.args.before c.args.after c.args.other start c.lowest.result c.highest.result m
    below.0 (omega (arith, ints, below)) (omega (arith, ints, below)) above.0 (omega (arith, ints, above)) in
    let to = MeetAlong-high c.args.before c.args.after c.args.other start c.lowest-2.result c.highest-2.result m
    above-2.0 (omega (arith, ints, above-2)) (omega (arith, ints, above-2)) below-2.0 (omega (arith, ints, below-2)) in
    rw (difference c.lowest.result c.highest.result (low c) (high c), difference c.highest-2.result c.lowest-2.result (high-2 c) (low-2 c), next c.highest-2.result c.lowest-2.result (high-2 c) (low-2 c))
    (from, omega (arith, ints))

pub returns-clause-reach : goal.returns-clause-reach
returns-clause-reach c =
    let a = high-2 c in
    let b = low-2 c in
    let d = low c in
    let e = high c in
    rw (difference c.lowest.result c.highest.result d e, difference c.highest-2.result c.lowest-2.result a b, next c.highest-2.result c.lowest-2.result a b)
    (omega (arith, ints), omega (arith, ints))
