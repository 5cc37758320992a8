-- A number that changes evenly along a segment: where it is at least 0 between two points.
use Rattle.std.proofs.lemmas.List.{take-append-drop}
use Rattle.std.proofs.lemmas.List.Elements.{All-cons, All-nil}
use Rattle.std.proofs.Common.{◌≡◌, ℕ, ◌^◌, ◌≤◌, take, drop, All, List, [], ◌∷◌, ◌++◌, sym, ◌∙◌, ap, subst, arith, ℤ, pos, neg_ℤ, ◌+ℤ◌, ◌-ℤ◌, ◌*ℤ◌, ◌<ℤ◌, ◌≤ℤ◌, nat_abs}
use Rattle.std.proofs.lemmas.Int.{by_lt_z}
use Rattle.bfm_geom.specs.declared.stretch.SegmentPoint.{SegmentPoint}
use Rattle.bfm_geom.specs.declared.stretch.Bound.{Bound}
use Rattle.bfm_geom.specs.declared.stretch.Stretch.{Stretch}
use Rattle.bfm_geom.specs.Stretch.{AllHold, Holds, IsOn, IsPoint, IsRuledOut, IsSmall, IsStretch, Narrows, lead, value_at}
use Rattle.bfm_geom.proofs.IntegerLemmas.{products, sums, nat_abs-*ℤ_most, *ℤ_positive, *ℤ_nonnegative}

-- from one point to another the number, taken per weight, changes by their lead times its slope
value_at-slope : (g : Bound) (s t : SegmentPoint) → (t.p +ℤ t.q) *ℤ value_at g s -ℤ (s.p +ℤ s.q) *ℤ value_at g t ≡ (g.at_c -ℤ g.at_d) *ℤ lead s t
value_at-slope g s t = simp products (omega (arith, sums))

-- a number that falls below 0 on the way falls from c to d
falls : (g : Bound) (s t : SegmentPoint) → IsPoint s → IsPoint t → pos 0 ≤ℤ lead s t → Holds g s → value_at g t <ℤ pos 0 → g.at_d <ℤ g.at_c
falls g s t ps pt l h f = by_lt_z g.at_d g.at_c (λ k. k) (λ k.
    let up : pos 0 ≤ℤ ((g.at_d -ℤ g.at_c) *ℤ lead s t) = *ℤ_nonnegative _ _ (omega (arith, sums)) l in
    let start : pos 0 ≤ℤ ((t.p +ℤ t.q) *ℤ value_at g s) = *ℤ_nonnegative _ _ (omega (arith, sums, pt.some)) h in
    let end : pos 0 <ℤ ((s.p +ℤ s.q) *ℤ neg_ℤ (value_at g t)) = *ℤ_positive _ _ ps.some (omega (arith, sums)) in
    absurd (omega (arith, sums, simp products at up, simp products at start, simp products at end)))

-- one that rises above it on the way rises
rises : (g : Bound) (s t : SegmentPoint) → IsPoint s → IsPoint t → pos 0 ≤ℤ lead s t → value_at g s <ℤ pos 0 → Holds g t → g.at_c <ℤ g.at_d
rises g s t ps pt l f h = by_lt_z g.at_c g.at_d (λ k. k) (λ k.
    let down : pos 0 ≤ℤ ((g.at_c -ℤ g.at_d) *ℤ lead s t) = *ℤ_nonnegative _ _ (omega (arith, sums)) l in
    let end : pos 0 ≤ℤ ((s.p +ℤ s.q) *ℤ value_at g t) = *ℤ_nonnegative _ _ (omega (arith, sums, ps.some)) h in
    let start : pos 0 <ℤ ((t.p +ℤ t.q) *ℤ neg_ℤ (value_at g s)) = *ℤ_positive _ _ pt.some (omega (arith, sums)) in
    absurd (omega (arith, sums, simp products at down, simp products at start, simp products at end)))

-- what holds at both ends holds on the whole stretch
Holds-between : (g : Bound) (t : Stretch) (s : SegmentPoint) → IsPoint t.from → IsPoint t.to → IsOn t s → Holds g t.from → Holds g t.to → Holds g s
Holds-between g t s pf pt o hf ht = by_lt_z (value_at g s) (pos 0) (λ k.
    let down : g.at_d <ℤ g.at_c = falls g t.from s pf o.point o.from hf k in
    let up : g.at_c <ℤ g.at_d = rises g s t.to o.point pt o.to k ht in
    absurd (omega (arith, sums))) (λ k. k)

-- what fails at both ends fails on the whole stretch
fails_between : (g : Bound) (t : Stretch) (s : SegmentPoint) → IsPoint t.from → IsPoint t.to → IsOn t s → value_at g t.from <ℤ pos 0 → value_at g t.to <ℤ pos 0 → Holds g s → ⊥
fails_between g t s pf pt o ff ft h =
    let up : g.at_c <ℤ g.at_d = rises g t.from s pf o.point o.from ff h in
    let down : g.at_d <ℤ g.at_c = falls g s t.to o.point pt o.to h ft in
    omega (arith, sums)

-- where the number falls through 0 it is 0 at a point
falling_zero : (g : Bound) (s t : SegmentPoint) → IsPoint s → IsPoint t → pos 0 ≤ℤ lead s t → Holds g s → value_at g t <ℤ pos 0 → IsPoint record { p = neg_ℤ g.at_d; q = g.at_c }
falling_zero g s t ps pt l h f =
    let down : g.at_d <ℤ g.at_c = falls g s t ps pt l h f in
    record {
      p = by_lt_z (pos 0) g.at_d (λ k. absurd (
          let low : pos 0 ≤ℤ (t.p *ℤ g.at_c) = *ℤ_nonnegative _ _ pt.p (omega (arith, sums)) in
          let high : pos 0 ≤ℤ (t.q *ℤ g.at_d) = *ℤ_nonnegative _ _ pt.q (omega (arith, sums)) in
          omega (arith, sums))) (λ k. omega (arith, sums));
      q = by_lt_z g.at_c (pos 0) (λ k. absurd (
          let some : pos 0 <ℤ ((s.p +ℤ s.q) *ℤ neg_ℤ g.at_c) = *ℤ_positive _ _ ps.some (omega (arith, sums)) in
          let more : pos 0 ≤ℤ (s.q *ℤ (g.at_c -ℤ g.at_d)) = *ℤ_nonnegative _ _ ps.q (omega (arith, sums)) in
          omega (arith, sums, simp products at h, simp products at some, simp products at more))) (λ k. k);
      some = omega (arith, sums);
    }

-- and so it is where the number rises through 0
rising_zero : (g : Bound) (s t : SegmentPoint) → IsPoint s → IsPoint t → pos 0 ≤ℤ lead s t → value_at g s <ℤ pos 0 → Holds g t → IsPoint record { p = g.at_d; q = neg_ℤ g.at_c }
rising_zero g s t ps pt l f h =
    let up : g.at_c <ℤ g.at_d = rises g s t ps pt l f h in
    record {
      p = by_lt_z g.at_d (pos 0) (λ k. absurd (
          let some : pos 0 <ℤ ((t.p +ℤ t.q) *ℤ neg_ℤ g.at_d) = *ℤ_positive _ _ pt.some (omega (arith, sums)) in
          let more : pos 0 ≤ℤ (t.p *ℤ (g.at_d -ℤ g.at_c)) = *ℤ_nonnegative _ _ pt.p (omega (arith, sums)) in
          omega (arith, sums, simp products at h, simp products at some, simp products at more))) (λ k. k);
      q = by_lt_z (pos 0) g.at_c (λ k. absurd (
          let low : pos 0 ≤ℤ (s.p *ℤ g.at_c) = *ℤ_nonnegative _ _ ps.p (omega (arith, sums)) in
          let high : pos 0 ≤ℤ (s.q *ℤ g.at_d) = *ℤ_nonnegative _ _ ps.q (omega (arith, sums)) in
          omega (arith, sums))) (λ k. omega (arith, sums));
      some = omega (arith, sums);
    }

-- how large two products of small numbers are
pub products-sizes : (a b c d : ℤ) → IsSmall a c → IsSmall b d → (nat_abs (a *ℤ b) ≤ 2 ^ 48) × (nat_abs (c *ℤ d) ≤ 2 ^ 48)
products-sizes a b c d l r = (nat_abs-*ℤ_most a b _ _ l.first r.first, nat_abs-*ℤ_most c d _ _ l.second r.second)

-- a stretch on which the bound holds at both ends stays as it is
pub Narrows-same : (t : Stretch) (g : Bound) → IsStretch t → Holds g t.from → Holds g t.to → Narrows t (g ∷ []) t
Narrows-same t g st hf ht = record {
  stretch = st;
  none_missed = λ s o h. o;
  none_invented = ((hf, tt), (ht, tt));
  inside = λ k f e. (f, e);
}

-- the point where the number is 0 takes the place of the far end where the bound fails
pub Narrows-to : (t : Stretch) (g : Bound) (z : SegmentPoint) → IsStretch t → IsSmall g.at_c g.at_d → z.p ≡ neg_ℤ g.at_d → z.q ≡ g.at_c → Holds g t.from → value_at g t.to <ℤ pos 0
    → Narrows t (g ∷ []) record { from = t.from; to = z }
Narrows-to t g z st small ep eq hf ft =
    let pz : IsPoint z = let i = falling_zero g t.from t.to st.from st.to st.forward hf ft in record { p = omega (arith, sums, i.p); q = omega (arith, sums, i.q); some = omega (arith, sums, i.some) } in
    let ahead : (s : SegmentPoint) → lead s z ≡ value_at g s = λ s. simp (ep, eq) (simp products (omega (arith, sums))) in
    let behind : (s : SegmentPoint) → lead z s ≡ neg_ℤ (value_at g s) = λ s. simp (ep, eq) (simp products (omega (arith, sums))) in
    let on : IsOn t z = record { point = pz; from = omega (arith, sums, ahead t.from); to = omega (arith, sums, behind t.to) } in
    let zero : value_at g z ≡ pos 0 = simp (ep, eq) (simp products (omega (arith, sums))) in
    record {
      stretch = record { from = st.from; to = pz; forward = omega (arith, sums, ahead t.from); from_size = st.from_size; to_size = record { first = omega (arith, sums, small.second); second = omega (arith, sums, small.first) } };
      none_missed = λ s o h. record { point = o.point; from = o.from; to = omega (arith, sums, ahead s, h.0) };
      none_invented = ((hf, tt), (omega (arith, sums), tt));
      inside = λ k f e. (f, Holds-between k t z st.from st.to on f e);
    }

-- and that of the near end
pub Narrows-from : (t : Stretch) (g : Bound) (z : SegmentPoint) → IsStretch t → IsSmall g.at_c g.at_d → z.p ≡ g.at_d → z.q ≡ neg_ℤ g.at_c → value_at g t.from <ℤ pos 0 → Holds g t.to
    → Narrows t (g ∷ []) record { from = z; to = t.to }
Narrows-from t g z st small ep eq ff ht =
    let pz : IsPoint z = let i = rising_zero g t.from t.to st.from st.to st.forward ff ht in record { p = omega (arith, sums, i.p); q = omega (arith, sums, i.q); some = omega (arith, sums, i.some) } in
    let ahead : (s : SegmentPoint) → lead z s ≡ value_at g s = λ s. simp (ep, eq) (simp products (omega (arith, sums))) in
    let behind : (s : SegmentPoint) → lead s z ≡ neg_ℤ (value_at g s) = λ s. simp (ep, eq) (simp products (omega (arith, sums))) in
    let on : IsOn t z = record { point = pz; from = omega (arith, sums, behind t.from); to = omega (arith, sums, ahead t.to) } in
    let zero : value_at g z ≡ pos 0 = simp (ep, eq) (simp products (omega (arith, sums))) in
    record {
      stretch = record { from = pz; to = st.to; forward = omega (arith, sums, ahead t.to); from_size = record { first = omega (arith, sums, small.second); second = omega (arith, sums, small.first) }; to_size = st.to_size };
      none_missed = λ s o h. record { point = o.point; from = omega (arith, sums, ahead s, h.0); to = o.to };
      none_invented = ((omega (arith, sums), tt), (ht, tt));
      inside = λ k f e. (Holds-between k t z st.from st.to on f e, e);
    }

-- a bound that fails at both ends rules the stretch out
pub IsRuledOut-both : (t : Stretch) (g : Bound) → IsStretch t → value_at g t.from <ℤ pos 0 → value_at g t.to <ℤ pos 0 → IsRuledOut t (g ∷ [])
IsRuledOut-both t g st ff ft s o h = fails_between g t s st.from st.to o ff ft h.0

-- bounds one after another
AllHold-append : (xs ys : List Bound) (s : SegmentPoint) → AllHold xs s → AllHold ys s → AllHold (xs ++ ys) s
AllHold-append [] ys s h k = k
AllHold-append (x ∷ xs) ys s h k = (h.0, AllHold-append xs ys s h.1 k)

AllHold-append_left : (xs ys : List Bound) (s : SegmentPoint) → AllHold (xs ++ ys) s → AllHold xs s
AllHold-append_left [] ys s h = tt
AllHold-append_left (x ∷ xs) ys s h = (h.0, AllHold-append_left xs ys s h.1)

AllHold-append_right : (xs ys : List Bound) (s : SegmentPoint) → AllHold (xs ++ ys) s → AllHold ys s
AllHold-append_right [] ys s h = h
AllHold-append_right (x ∷ xs) ys s h = AllHold-append_right xs ys s h.1

-- what holds at both ends of the old stretch holds at both ends of the new one
AllHold-inside : (xs bounds : List Bound) (old new : Stretch) → Narrows old bounds new → AllHold xs old.from → AllHold xs old.to → AllHold xs new.from × AllHold xs new.to
AllHold-inside [] bounds old new n f e = (tt, tt)
AllHold-inside (x ∷ xs) bounds old new n f e =
    let here = n.inside x f.0 e.0 in
    let rest = AllHold-inside xs bounds old new n f.1 e.1 in
    ((here.0, rest.0), (here.1, rest.1))

-- with no bound a stretch stays as it is
pub Narrows-nil : (t : Stretch) → IsStretch t → Narrows t [] t
Narrows-nil t st = record { stretch = st; none_missed = λ s o h. o; none_invented = (tt, tt); inside = λ g f e. (f, e) }

-- the narrowed stretch is narrowed again
pub Narrows-append : (a b c : Stretch) (xs ys : List Bound) → Narrows a xs b → Narrows b ys c → Narrows a (xs ++ ys) c
Narrows-append a b c xs ys m n =
    let kept = AllHold-inside xs ys b c n m.none_invented.0 m.none_invented.1 in
    record {
      stretch = n.stretch;
      none_missed = λ s o h. n.none_missed s (m.none_missed s o (AllHold-append_left xs ys s h)) (AllHold-append_right xs ys s h);
      none_invented = (AllHold-append xs ys c.from kept.0 n.none_invented.0, AllHold-append xs ys c.to kept.1 n.none_invented.1);
      inside = λ g f e. let i = m.inside g f e in n.inside g i.0 i.1;
    }

-- where the rest of a stretch is ruled out, all of it is
pub IsRuledOut-append : (a b : Stretch) (xs ys : List Bound) → Narrows a xs b → IsRuledOut b ys → IsRuledOut a (xs ++ ys)
IsRuledOut-append a b xs ys m r s o h = r s (m.none_missed s o (AllHold-append_left xs ys s h)) (AllHold-append_right xs ys s h)

-- by some of the bounds
pub IsRuledOut-take : (t : Stretch) (n : ℕ) (xs : List Bound) → IsRuledOut t (take n xs) → IsRuledOut t xs
IsRuledOut-take t n xs r s o h = r s o (AllHold-append_left (take n xs) (drop n xs) s (subst (λ l. AllHold l s) (sym (take-append-drop n xs)) h))

-- the segment from end to end, on which each of its points lies
abbrev pub whole : Stretch
whole = record { from = record { p = pos 1; q = pos 0 }; to = record { p = pos 0; q = pos 1 } }

-- each point of the segment lies on it from end to end
pub IsOn-whole : (s : SegmentPoint) → IsPoint s → IsOn whole s
IsOn-whole s point = record { point = point; from = simp products (omega (arith, sums, point.q)); to = simp products (omega (arith, sums, point.p)) }

-- bounds with the same values at the ends are one
pub Bound-same : (g h : Bound) → g.at_c ≡ h.at_c → g.at_d ≡ h.at_d → g ≡ h
Bound-same g h c d = ap (λ n. let b : Bound = record { at_c = n; at_d = g.at_d } in b) c ∙ ap (λ n. let b : Bound = record { at_c = h.at_c; at_d = n } in b) d

-- for a call of narrowed on two, three or four bounds
abbrev pub IsSmallBound : Bound → Type 0
IsSmallBound g = IsSmall g.at_c g.at_d

pub small_two : (f g : Bound) → IsSmallBound f → IsSmallBound g → All IsSmallBound (f ∷ g ∷ [])
small_two f g p q = All-cons IsSmallBound f (g ∷ []) p (All-cons IsSmallBound g [] q (All-nil IsSmallBound))

pub small_three : (f g h : Bound) → IsSmallBound f → IsSmallBound g → IsSmallBound h → All IsSmallBound (f ∷ g ∷ h ∷ [])
small_three f g h p q r = All-cons IsSmallBound f (g ∷ h ∷ []) p (small_two g h q r)

pub small_four : (f g h k : Bound) → IsSmallBound f → IsSmallBound g → IsSmallBound h → IsSmallBound k → All IsSmallBound (f ∷ g ∷ h ∷ k ∷ [])
small_four f g h k p q r s = All-cons IsSmallBound f (g ∷ h ∷ k ∷ []) p (small_three g h k q r s)
