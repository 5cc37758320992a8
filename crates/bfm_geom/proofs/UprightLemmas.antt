-- What the bounds on a segment say of an upright triangle.
use Rattle.std.proofs.Common.{◌≡◌, refl, Option, None, Some, IfSome, IfNone, take, List, [], ◌∷◌, sym, ◌∙◌, ap, subst, arith, ℤ, pos, negsuc, neg_ℤ, ◌+ℤ◌, ◌-ℤ◌, ◌*ℤ◌, ◌<ℤ◌, ◌≤ℤ◌}
use Rattle.std.proofs.lemmas.Option.{IfSome_then}
use Rattle.bfm_base.specs.declared.place.P3.{P3}
use Rattle.bfm_geom.specs.declared.meeting.Weights.{Weights}
use Rattle.bfm_geom.specs.declared.stretch.SegmentPoint.{SegmentPoint}
use Rattle.bfm_geom.specs.declared.stretch.Bound.{Bound}
use Rattle.bfm_geom.specs.declared.stretch.Stretch.{Stretch}
use Rattle.bfm_geom.specs.Stretch.{AllHold, Holds, IsPoint, IsRuledOut, Narrows, opposite_of, value_at}
use Rattle.bfm_geom.specs.Meeting.{Agree, IsCommonPoint}
use Rattle.bfm_geom.specs.Upright.{IsAxisApart, IsAxisPoint, along_x_of, along_y_of, depth_of, half_turned, height_of, three_quarter_turned, IsUprightApart, IsUprightPoint, aside_of, mirrored, origin, quarter_turned, raised, upper_weight_of, origin_weight_of, lower_weight_of}
use Rattle.bfm_geom.proofs.StretchLemmas.{IsOn-whole, IsRuledOut-append, IsRuledOut-take, Narrows-append, whole}
use Rattle.bfm_geom.proofs.IntegerLemmas.{products, sums, *ℤ-+ℤ, *ℤ-neg_ℤ, *ℤ_positive, *ℤ_nonnegative}

-- the bounds of a leaning triangle: in its plane, and no corner's weight negative
abbrev pub leaning_bounds : P3 → P3 → P3 → List Bound
leaning_bounds b c d = aside_of b c d ∷ opposite_of (aside_of b c d) ∷ origin_weight_of b c d ∷ lower_weight_of b c d ∷ upper_weight_of b c d ∷ []

-- the weights that a point of the segment shows
abbrev pub leaning_weights : P3 → P3 → P3 → SegmentPoint → Weights
leaning_weights b c d s = record {
  u = value_at (origin_weight_of b c d) s;
  v = value_at (lower_weight_of b c d) s;
  w = value_at (upper_weight_of b c d) s;
  p = b.x *ℤ s.p;
  q = b.x *ℤ s.q;
}

-- along x, y and z: the mean of the corners with these weights is that of the segment's ends
shown-x : (u X wc wd cx dx p q : ℤ) → u *ℤ pos 0 +ℤ (p *ℤ (cx -ℤ wc) +ℤ q *ℤ (dx -ℤ wd)) *ℤ X +ℤ (p *ℤ wc +ℤ q *ℤ wd) *ℤ X ≡ X *ℤ p *ℤ cx +ℤ X *ℤ q *ℤ dx
shown-x u X wc wd cx dx p q = simp products (omega (arith, sums))

shown-y : (u X Y wc wd cx cy dx dy p q : ℤ) → p *ℤ (X *ℤ cy -ℤ Y *ℤ cx) +ℤ q *ℤ (X *ℤ dy -ℤ Y *ℤ dx) ≡ pos 0
    → u *ℤ pos 0 +ℤ (p *ℤ (cx -ℤ wc) +ℤ q *ℤ (dx -ℤ wd)) *ℤ Y +ℤ (p *ℤ wc +ℤ q *ℤ wd) *ℤ Y ≡ X *ℤ p *ℤ cy +ℤ X *ℤ q *ℤ dy
shown-y u X Y wc wd cx cy dx dy p q plane = simp products (omega (arith, sums, simp products at plane))

shown-z : (u X Z cx cz dx dz p q : ℤ) → u *ℤ pos 0 +ℤ (p *ℤ (cx -ℤ (X *ℤ cz -ℤ Z *ℤ cx)) +ℤ q *ℤ (dx -ℤ (X *ℤ dz -ℤ Z *ℤ dx))) *ℤ Z +ℤ (p *ℤ (X *ℤ cz -ℤ Z *ℤ cx) +ℤ q *ℤ (X *ℤ dz -ℤ Z *ℤ dx)) *ℤ (Z +ℤ pos 1) ≡ X *ℤ p *ℤ cz +ℤ X *ℤ q *ℤ dz
shown-z u X Z cx cz dx dz p q = simp products (omega (arith, sums))

shown_total : (X wc wd cx dx p q : ℤ) → (p *ℤ (X -ℤ cx) +ℤ q *ℤ (X -ℤ dx)) +ℤ (p *ℤ (cx -ℤ wc) +ℤ q *ℤ (dx -ℤ wd)) +ℤ (p *ℤ wc +ℤ q *ℤ wd) ≡ X *ℤ p +ℤ X *ℤ q
shown_total X wc wd cx dx p q = simp products (omega (arith, sums))

-- a number and its opposite are both at least 0 where it is 0
pub opposite_zero : (g : Bound) (s : SegmentPoint) → Holds g s → Holds (opposite_of g) s → value_at g s ≡ pos 0
opposite_zero g s h k = omega (arith, sums, simp (*ℤ-neg_ℤ) at k)

-- and where it is 0 its opposite holds
pub opposite_kept : (g : Bound) (s : SegmentPoint) → value_at g s ≡ pos 0 → Holds (opposite_of g) s
opposite_kept g s e = simp (*ℤ-neg_ℤ) (omega (arith, sums, e))

-- a point of the segment in the triangle's plane that no corner's weight forbids is a point of the triangle
pub leaning_found : (b c d : P3) (s : SegmentPoint) → pos 0 <ℤ b.x → IsPoint s → AllHold (leaning_bounds b c d) s → IsUprightPoint b (pos 1) c d (leaning_weights b c d s)
leaning_found b c d s lean point h =
    let u : ℤ = value_at (origin_weight_of b c d) s in
    let at_c : ℤ = (upper_weight_of b c d).at_c in
    let at_d : ℤ = (upper_weight_of b c d).at_d in
    record {
      corners = (h.1.1.0, h.1.1.1.0, h.1.1.1.1.0);
      ends = (*ℤ_nonnegative b.x s.p (omega (arith, sums)) point.p, *ℤ_nonnegative b.x s.q (omega (arith, sums)) point.q);
      total = shown_total b.x at_c at_d c.x d.x s.p s.q;
      some = subst (λ n. pos 0 <ℤ n) (*ℤ-+ℤ b.x s.p s.q) (*ℤ_positive b.x (s.p +ℤ s.q) lean point.some);
      x = shown-x u b.x at_c at_d c.x d.x s.p s.q;
      y = shown-y u b.x b.y at_c at_d c.x c.y d.x d.y s.p s.q (opposite_zero (aside_of b c d) s h.0 h.1.0);
      z = shown-z u b.x b.z c.x c.z d.x d.z s.p s.q;
    }

-- the weights of a common point keep each bound
kept_plane : (u v w p q X Y cx cy dx dy : ℤ) → u *ℤ pos 0 +ℤ v *ℤ X +ℤ w *ℤ X ≡ p *ℤ cx +ℤ q *ℤ dx → u *ℤ pos 0 +ℤ v *ℤ Y +ℤ w *ℤ Y ≡ p *ℤ cy +ℤ q *ℤ dy
    → p *ℤ (X *ℤ cy -ℤ Y *ℤ cx) +ℤ q *ℤ (X *ℤ dy -ℤ Y *ℤ dx) ≡ pos 0
kept_plane u v w p q X Y cx cy dx dy ex ey = simp products (omega (arith, sums, simp products at (ap (λ n. Y *ℤ n) ex), simp products at (ap (λ n. X *ℤ n) ey)))

kept_origin : (u v w p q X cx dx : ℤ) → u +ℤ v +ℤ w ≡ p +ℤ q → u *ℤ pos 0 +ℤ v *ℤ X +ℤ w *ℤ X ≡ p *ℤ cx +ℤ q *ℤ dx → p *ℤ (X -ℤ cx) +ℤ q *ℤ (X -ℤ dx) ≡ X *ℤ u
kept_origin u v w p q X cx dx e ex = simp products (omega (arith, sums, simp products at (ap (λ n. X *ℤ n) e), simp products at ex))

kept_above : (u v w p q X Z cx cz dx dz : ℤ) → u *ℤ pos 0 +ℤ v *ℤ X +ℤ w *ℤ X ≡ p *ℤ cx +ℤ q *ℤ dx → u *ℤ pos 0 +ℤ v *ℤ Z +ℤ w *ℤ (Z +ℤ pos 1) ≡ p *ℤ cz +ℤ q *ℤ dz
    → p *ℤ (X *ℤ cz -ℤ Z *ℤ cx) +ℤ q *ℤ (X *ℤ dz -ℤ Z *ℤ dx) ≡ X *ℤ w
kept_above u v w p q X Z cx cz dx dz ex ez = simp products (omega (arith, sums, simp products at (ap (λ n. Z *ℤ n) ex), simp products at (ap (λ n. X *ℤ n) ez)))

kept_below : (u v w p q X cx dx wc wd : ℤ) → u *ℤ pos 0 +ℤ v *ℤ X +ℤ w *ℤ X ≡ p *ℤ cx +ℤ q *ℤ dx → p *ℤ wc +ℤ q *ℤ wd ≡ X *ℤ w
    → p *ℤ (cx -ℤ wc) +ℤ q *ℤ (dx -ℤ wd) ≡ X *ℤ v
kept_below u v w p q X cx dx wc wd ex ew = simp products (omega (arith, sums, simp products at ex, simp products at ew))

-- a common point has each bound
pub leaning_kept : (b c d : P3) (k : Weights) → pos 0 <ℤ b.x → IsUprightPoint b (pos 1) c d k → AllHold (leaning_bounds b c d) record { p = k.p; q = k.q }
leaning_kept b c d k lean m =
    let plane = kept_plane k.u k.v k.w k.p k.q b.x b.y c.x c.y d.x d.y m.x m.y in
    let first = kept_origin k.u k.v k.w k.p k.q b.x c.x d.x m.total m.x in
    let third = kept_above k.u k.v k.w k.p k.q b.x b.z c.x c.z d.x d.z m.x m.z in
    let second = kept_below k.u k.v k.w k.p k.q b.x c.x d.x _ _ m.x third in
    let times : (n : ℤ) → pos 0 ≤ℤ n → pos 0 ≤ℤ (b.x *ℤ n) = λ n h. *ℤ_nonnegative b.x n (omega (arith, sums, lean)) h in
    (omega (arith, sums, plane), (opposite_kept (aside_of b c d) _ plane, (omega (arith, sums, first, times k.u m.corners.0), (omega (arith, sums, second, times k.v m.corners.1), (omega (arith, sums, third, times k.w m.corners.2), tt)))))

-- where the bounds rule the segment out there is no common point
pub leaning_apart : (b c d : P3) → pos 0 <ℤ b.x → IsRuledOut whole (leaning_bounds b c d) → IsUprightApart b (pos 1) c d
leaning_apart b c d lean r (k, m) =
    let point : IsPoint record { p = k.p; q = k.q } = record { p = m.ends.0; q = m.ends.1; some = m.some } in
    r record { p = k.p; q = k.q } (IsOn-whole record { p = k.p; q = k.q } point) (leaning_kept b c d k lean m)

-- the same, of the bounds that the code has
pub leaning_apart_aside : (b c d : P3) (beside across : Bound) → pos 0 <ℤ b.x → beside ≡ aside_of b c d → across ≡ opposite_of beside → IsRuledOut whole (beside ∷ across ∷ []) → IsUprightApart b (pos 1) c d
leaning_apart_aside b c d beside across lean e1 e2 r =
    leaning_apart b c d lean (IsRuledOut-take whole 2 (leaning_bounds b c d) (let r' : IsRuledOut whole (beside ∷ opposite_of beside ∷ []) = rw e2 at r in rw e1 at r'))

-- the bounds on a leaning triangle's corners
pub record AreCornerBounds (b c d : P3) (at_origin lower upper : Bound) : Type 0 where
  pub first : at_origin ≡ origin_weight_of b c d
  pub second : lower ≡ lower_weight_of b c d
  pub third : upper ≡ upper_weight_of b c d

-- the bounds that the code has are those of the triangle
leaning_bounds-is : (b c d : P3) (beside across at_origin lower upper : Bound) → beside ≡ aside_of b c d → across ≡ opposite_of beside → AreCornerBounds b c d at_origin lower upper
    → leaning_bounds b c d ≡ beside ∷ across ∷ at_origin ∷ lower ∷ upper ∷ []
leaning_bounds-is b c d beside across at_origin lower upper e1 e2 e = rw (e2, e1, e.first, e.second, e.third)

-- where they rule out what lies in the plane there is no common point
pub leaning_apart_corners : (b c d : P3) (beside across at_origin lower upper : Bound) (line : Stretch) → pos 0 <ℤ b.x → beside ≡ aside_of b c d → across ≡ opposite_of beside → AreCornerBounds b c d at_origin lower upper
    → Narrows whole (beside ∷ across ∷ []) line → IsRuledOut line (at_origin ∷ lower ∷ upper ∷ []) → IsUprightApart b (pos 1) c d
leaning_apart_corners b c d beside across at_origin lower upper line lean e1 e2 e n r =
    leaning_apart b c d lean (subst (IsRuledOut whole) (sym (leaning_bounds-is b c d beside across at_origin lower upper e1 e2 e))
    (IsRuledOut-append whole line (beside ∷ across ∷ []) (at_origin ∷ lower ∷ upper ∷ []) n r))

-- where they leave a point it is a common one
pub leaning_found_corners : (b c d : P3) (beside across at_origin lower upper : Bound) (line end : Stretch) → pos 0 <ℤ b.x → beside ≡ aside_of b c d → across ≡ opposite_of beside → AreCornerBounds b c d at_origin lower upper
    → Narrows whole (beside ∷ across ∷ []) line → Narrows line (at_origin ∷ lower ∷ upper ∷ []) end
    → IsUprightPoint b (pos 1) c d record { u = value_at at_origin end.from; v = value_at lower end.from; w = value_at upper end.from; p = b.x *ℤ end.from.p; q = b.x *ℤ end.from.q }
leaning_found_corners b c d beside across at_origin lower upper line end lean e1 e2 e n m =
    let both = Narrows-append whole line end (beside ∷ across ∷ []) (at_origin ∷ lower ∷ upper ∷ []) n m in
    rw (e.first, e.second, e.third)
    (leaning_found b c d end.from lean both.stretch.from (subst (λ l. AllHold l end.from) (sym (leaning_bounds-is b c d beside across at_origin lower upper e1 e2 e)) both.none_invented.0))

-- equal weights one by one are the same weights
pub Weights-same : (j k : Weights) → j.u ≡ k.u → j.v ≡ k.v → j.w ≡ k.w → j.p ≡ k.p → j.q ≡ k.q → j ≡ k
Weights-same j k u v w p q =
    let of : ℤ → ℤ → ℤ → ℤ → ℤ → Weights = λ u v w p q. record { u = u; v = v; w = w; p = p; q = q } in
    ap (λ n. of n j.v j.w j.p j.q) u ∙ ap (λ n. of k.u n j.w j.p j.q) v ∙ ap (λ n. of k.u k.v n j.p j.q) w ∙ ap (λ n. of k.u k.v k.w n j.q) p ∙ ap (λ n. of k.u k.v k.w k.p n) q

-- ---- a triangle on the z axis

-- its bounds: on the axis, and from the origin to the top
abbrev pub axis_bounds : ℤ → P3 → P3 → List Bound
axis_bounds top c d = along_x_of c d ∷ opposite_of (along_x_of c d) ∷ along_y_of c d ∷ opposite_of (along_y_of c d) ∷ depth_of top c d ∷ height_of c d ∷ []

-- beside the axis no corner and no point of the segment lies
on_axis : (u v top c d p q : ℤ) → p *ℤ c +ℤ q *ℤ d ≡ pos 0 → u *ℤ pos 0 +ℤ v *ℤ pos 0 +ℤ pos 0 *ℤ pos 0 ≡ top *ℤ p *ℤ c +ℤ top *ℤ q *ℤ d
on_axis u v top c d p q e = simp products (omega (arith, sums, simp products at (ap (λ n. top *ℤ n) e)))

-- a point of the segment that keeps them is a point of the triangle
pub axis_found : (top : ℤ) (c d : P3) (s : SegmentPoint) → pos 0 <ℤ top → IsPoint s → AllHold (axis_bounds top c d) s
    → IsAxisPoint top c d record { u = value_at (depth_of top c d) s; v = value_at (height_of c d) s; w = pos 0; p = top *ℤ s.p; q = top *ℤ s.q }
axis_found top c d s above point h =
    let u : ℤ = value_at (depth_of top c d) s in
    let v : ℤ = value_at (height_of c d) s in (
      refl,
      record {
        corners = (h.1.1.1.1.0, h.1.1.1.1.1.0, omega (arith, sums));
        ends = (*ℤ_nonnegative top s.p (omega (arith, sums)) point.p, *ℤ_nonnegative top s.q (omega (arith, sums)) point.q);
        total = shown (s.p) s.q top c.z d.z;
        some = subst (λ n. pos 0 <ℤ n) (*ℤ-+ℤ top s.p s.q) (*ℤ_positive top (s.p +ℤ s.q) above point.some);
        x = on_axis u v top c.x d.x s.p s.q (opposite_zero (along_x_of c d) s h.0 h.1.0);
        y = on_axis u v top c.y d.y s.p s.q (opposite_zero (along_y_of c d) s h.1.1.0 h.1.1.1.0);
        z = at_height u (s.p) s.q top c.z d.z;
      },
    )
  where
    shown : (p q top c d : ℤ) → p *ℤ (top -ℤ c) +ℤ q *ℤ (top -ℤ d) +ℤ (p *ℤ c +ℤ q *ℤ d) +ℤ pos 0 ≡ top *ℤ p +ℤ top *ℤ q
    shown p q top c d = simp products (omega (arith, sums))

    at_height : (u p q top c d : ℤ) → u *ℤ pos 0 +ℤ (p *ℤ c +ℤ q *ℤ d) *ℤ (pos 0 +ℤ top) +ℤ pos 0 *ℤ (pos 0 +ℤ top) ≡ top *ℤ p *ℤ c +ℤ top *ℤ q *ℤ d
    at_height u p q top c d = simp products (omega (arith, sums))

-- a common point keeps them
pub axis_kept : (top : ℤ) (c d : P3) (k : Weights) → pos 0 <ℤ top → IsCommonPoint origin (raised origin top) (raised origin top) c d k → AllHold (axis_bounds top c d) record { p = k.p; q = k.q }
axis_kept top c d k above m =
    let s : SegmentPoint = record { p = k.p; q = k.q } in
    let x : value_at (along_x_of c d) s ≡ pos 0 = beside k.u k.v k.w _ m.x in
    let y : value_at (along_y_of c d) s ≡ pos 0 = beside k.u k.v k.w _ m.y in
    let z : value_at (height_of c d) s ≡ (k.v +ℤ k.w) *ℤ top = over k.u k.v k.w top _ m.z in
    let u : value_at (depth_of top c d) s ≡ k.u *ℤ top = under k.u k.v k.w k.p k.q top c.z d.z m.total z in
    let up : pos 0 ≤ℤ top = omega (arith, sums) in (
      omega (arith, sums, x),
      (
        opposite_kept (along_x_of c d) s x,
        (
          omega (arith, sums, y),
          (
            opposite_kept (along_y_of c d) s y,
            (subst (λ n. pos 0 ≤ℤ n) (sym u) (*ℤ_nonnegative k.u top m.corners.0 up), (subst (λ n. pos 0 ≤ℤ n) (sym z) (*ℤ_nonnegative (k.v +ℤ k.w) top (omega (arith, sums, m.corners)) up), tt)),
          ),
        ),
      ),
    )
  where
    beside : (u v w n : ℤ) → u *ℤ pos 0 +ℤ v *ℤ pos 0 +ℤ w *ℤ pos 0 ≡ n → n ≡ pos 0
    beside u v w n e = omega (arith, sums, simp products at e)

    over : (u v w top n : ℤ) → u *ℤ pos 0 +ℤ v *ℤ (pos 0 +ℤ top) +ℤ w *ℤ (pos 0 +ℤ top) ≡ n → n ≡ (v +ℤ w) *ℤ top
    over u v w top n e = simp products (omega (arith, sums, simp products at e))

    under : (u v w p q top c d : ℤ) → u +ℤ v +ℤ w ≡ p +ℤ q → p *ℤ c +ℤ q *ℤ d ≡ (v +ℤ w) *ℤ top → p *ℤ (top -ℤ c) +ℤ q *ℤ (top -ℤ d) ≡ u *ℤ top
    under u v w p q top c d e h = simp products (omega (arith, sums, simp products at (ap (λ n. top *ℤ n) e), simp products at h))

-- where the bounds rule the segment out there is no common point
axis_apart : (top : ℤ) (c d : P3) → pos 0 <ℤ top → IsRuledOut whole (axis_bounds top c d) → IsAxisApart top c d
axis_apart top c d above r (k, m) =
    let point : IsPoint record { p = k.p; q = k.q } = record { p = m.ends.0; q = m.ends.1; some = m.some } in
    r record { p = k.p; q = k.q } (IsOn-whole record { p = k.p; q = k.q } point) (axis_kept top c d k above m)

-- the same, of the bounds that the code has
pub record AreAxisBounds (c d : P3) (x across_x y across_y : Bound) : Type 0 where
  pub x_is : x ≡ along_x_of c d
  pub across_x_is : across_x ≡ opposite_of x
  pub y_is : y ≡ along_y_of c d
  pub across_y_is : across_y ≡ opposite_of y

-- the bounds that the code has are those of the triangle on the axis
axis_bounds-is : (top : ℤ) (c d : P3) (x across_x y across_y below above : Bound) → AreAxisBounds c d x across_x y across_y → below ≡ depth_of top c d → above ≡ height_of c d
    → axis_bounds top c d ≡ x ∷ across_x ∷ y ∷ across_y ∷ below ∷ above ∷ []
axis_bounds-is top c d x across_x y across_y below above e eb ea = rw (e.across_x_is, e.x_is, e.across_y_is, e.y_is, eb, ea)

-- where the first four rule the segment out there is no common point
pub axis_apart_beside : (top : ℤ) (c d : P3) (x across_x y across_y : Bound) → pos 0 <ℤ top → AreAxisBounds c d x across_x y across_y → IsRuledOut whole (x ∷ across_x ∷ y ∷ across_y ∷ []) → IsAxisApart top c d
axis_apart_beside top c d x across_x y across_y above e r =
    axis_apart top c d above (IsRuledOut-take whole 4 (axis_bounds top c d)
    (subst (λ l. IsRuledOut whole (take 4 l)) (sym (axis_bounds-is top c d x across_x y across_y _ _ e refl refl)) r))

-- nor where the last two rule out what lies on the axis
pub axis_apart_along : (top : ℤ) (c d : P3) (x across_x y across_y below above : Bound) (axis : Stretch) → pos 0 <ℤ top → AreAxisBounds c d x across_x y across_y → below ≡ depth_of top c d → above ≡ height_of c d
    → Narrows whole (x ∷ across_x ∷ y ∷ across_y ∷ []) axis → IsRuledOut axis (below ∷ above ∷ []) → IsAxisApart top c d
axis_apart_along top c d x across_x y across_y below above axis high e eb ea n r =
    axis_apart top c d high (subst (IsRuledOut whole) (sym (axis_bounds-is top c d x across_x y across_y below above e eb ea))
    (IsRuledOut-append whole axis (x ∷ across_x ∷ y ∷ across_y ∷ []) (below ∷ above ∷ []) n r))

-- where they leave a point it is a common one
pub axis_found_along : (top : ℤ) (c d : P3) (x across_x y across_y below above : Bound) (axis end : Stretch) → pos 0 <ℤ top → AreAxisBounds c d x across_x y across_y → below ≡ depth_of top c d → above ≡ height_of c d
    → Narrows whole (x ∷ across_x ∷ y ∷ across_y ∷ []) axis → Narrows axis (below ∷ above ∷ []) end
    → IsAxisPoint top c d record { u = value_at below end.from; v = value_at above end.from; w = pos 0; p = top *ℤ end.from.p; q = top *ℤ end.from.q }
axis_found_along top c d x across_x y across_y below above axis end high e eb ea n m =
    let both = Narrows-append whole axis end (x ∷ across_x ∷ y ∷ across_y ∷ []) (below ∷ above ∷ []) n m in
    rw (eb, ea) (axis_found top c d end.from high both.stretch.from (subst (λ l. AllHold l end.from) (sym (axis_bounds-is top c d x across_x y across_y below above e eb ea)) both.none_invented.0))

-- ---- turned triangles

-- means that agree along an axis agree along it turned round
Agree-neg : (k : Weights) (a b b2 c d : ℤ) → Agree k a b b2 c d → Agree k (neg_ℤ a) (neg_ℤ b) (neg_ℤ b2) (neg_ℤ c) (neg_ℤ d)
Agree-neg k a b b2 c d h = turned k.u k.v k.w k.p k.q a b b2 c d h
  where
    turned : (u v w p q a b b2 c d : ℤ) → u *ℤ a +ℤ v *ℤ b +ℤ w *ℤ b2 ≡ p *ℤ c +ℤ q *ℤ d → u *ℤ neg_ℤ a +ℤ v *ℤ neg_ℤ b +ℤ w *ℤ neg_ℤ b2 ≡ p *ℤ neg_ℤ c +ℤ q *ℤ neg_ℤ d
    turned u v w p q a b b2 c d h = simp products (omega (arith, sums))

-- the corner at the origin stays there
Agree-neg_back : (k : Weights) (b b2 c d : ℤ) → Agree k (pos 0) (neg_ℤ b) (neg_ℤ b2) (neg_ℤ c) (neg_ℤ d) → Agree k (pos 0) b b2 c d
Agree-neg_back k b b2 c d h = turned k.u k.v k.w k.p k.q b b2 c d h
  where
    turned : (u v w p q b b2 c d : ℤ) → u *ℤ pos 0 +ℤ v *ℤ neg_ℤ b +ℤ w *ℤ neg_ℤ b2 ≡ p *ℤ neg_ℤ c +ℤ q *ℤ neg_ℤ d → u *ℤ pos 0 +ℤ v *ℤ b +ℤ w *ℤ b2 ≡ p *ℤ c +ℤ q *ℤ d
    turned u v w p q b b2 c d h = simp products (omega (arith, sums, simp products at h))

-- a common point stays one where its places are moved so that each axis agrees
moved : (a b b2 c d a' b' b2' c' d' : P3) (k : Weights) → IsCommonPoint a b b2 c d k → Agree k a'.x b'.x b2'.x c'.x d'.x → Agree k a'.y b'.y b2'.y c'.y d'.y → Agree k a'.z b'.z b2'.z c'.z d'.z
    → IsCommonPoint a' b' b2' c' d' k
moved a b b2 c d a' b' b2' c' d' k m x y z = record { corners = m.corners; ends = m.ends; total = m.total; some = m.some; x = x; y = y; z = z }

-- the common points of one triangle and segment are those of another
pub record SamePoints (b : P3) (rise : ℤ) (c d b' : P3) (rise' : ℤ) (c' d' : P3) : Type 0 where
  pub there : (k : Weights) → IsUprightPoint b rise c d k → IsUprightPoint b' rise' c' d' k
  pub back : (k : Weights) → IsUprightPoint b' rise' c' d' k → IsUprightPoint b rise c d k

-- turned about z a triangle and a segment keep their common points
SamePoints-quarter_turned : (b c d : P3) (r : ℤ) → SamePoints b r c d (quarter_turned b) r (quarter_turned c) (quarter_turned d)
SamePoints-quarter_turned b c d r = record {
  there = λ k m. moved origin b (raised b r) c d _ _ _ _ _ k m m.y (Agree-neg k (pos 0) b.x b.x c.x d.x m.x) m.z;
  back = λ k m. moved origin (quarter_turned b) (raised (quarter_turned b) r) (quarter_turned c) (quarter_turned d) _ _ _ _ _ k m (Agree-neg_back k b.x b.x c.x d.x m.y) m.x m.z;
}

SamePoints-half_turned : (b c d : P3) (r : ℤ) → SamePoints b r c d (half_turned b) r (half_turned c) (half_turned d)
SamePoints-half_turned b c d r = record {
  there = λ k m. moved origin b (raised b r) c d _ _ _ _ _ k m (Agree-neg k (pos 0) b.x b.x c.x d.x m.x) (Agree-neg k (pos 0) b.y b.y c.y d.y m.y) m.z;
  back = λ k m. moved origin (half_turned b) (raised (half_turned b) r) (half_turned c) (half_turned d) _ _ _ _ _ k m (Agree-neg_back k b.x b.x c.x d.x m.x) (Agree-neg_back k b.y b.y c.y d.y m.y) m.z;
}

SamePoints-three_quarter_turned : (b c d : P3) (r : ℤ) → SamePoints b r c d (three_quarter_turned b) r (three_quarter_turned c) (three_quarter_turned d)
SamePoints-three_quarter_turned b c d r = record {
  there = λ k m. moved origin b (raised b r) c d _ _ _ _ _ k m (Agree-neg k (pos 0) b.y b.y c.y d.y m.y) m.x m.z;
  back = λ k m. moved origin (three_quarter_turned b) (raised (three_quarter_turned b) r) (three_quarter_turned c) (three_quarter_turned d) _ _ _ _ _ k m m.y (Agree-neg_back k b.y b.y c.y d.y m.x) m.z;
}

-- upside down a triangle that falls by 1 rises by 1
pub SamePoints-mirrored : (b c d : P3) (r : ℤ) → r ≡ negsuc 0 → SamePoints b r c d (mirrored b) (pos 1) (mirrored c) (mirrored d)
SamePoints-mirrored b c d r e =
    let top : neg_ℤ (b.z +ℤ r) ≡ neg_ℤ b.z +ℤ pos 1 = omega (arith, sums) in
    record {
      there = λ k m. moved origin b (raised b r) c d _ _ _ _ _ k m m.x m.y (subst (λ n. Agree k (pos 0) (neg_ℤ b.z) n (neg_ℤ c.z) (neg_ℤ d.z)) top (Agree-neg k (pos 0) b.z (b.z +ℤ r) c.z d.z m.z));
      back = λ k m. moved origin (mirrored b) (raised (mirrored b) (pos 1)) (mirrored c) (mirrored d) _ _ _ _ _ k m m.x m.y
          (Agree-neg_back k b.z (b.z +ℤ r) c.z d.z (subst (λ n. Agree k (pos 0) (neg_ℤ b.z) n (neg_ℤ c.z) (neg_ℤ d.z)) (sym top) m.z));
    }

-- the same, of the places that the code has
pub SamePoints-quarter : (b c d b' c' d' : P3) (r : ℤ) → b' ≡ quarter_turned b → c' ≡ quarter_turned c → d' ≡ quarter_turned d → SamePoints b r c d b' r c' d'
SamePoints-quarter b c d b' c' d' r eb ec ed = rw (eb, ec, ed) (SamePoints-quarter_turned b c d r)

pub SamePoints-half : (b c d b' c' d' : P3) (r : ℤ) → b' ≡ half_turned b → c' ≡ half_turned c → d' ≡ half_turned d → SamePoints b r c d b' r c' d'
SamePoints-half b c d b' c' d' r eb ec ed = rw (eb, ec, ed) (SamePoints-half_turned b c d r)

pub SamePoints-three_quarter : (b c d b' c' d' : P3) (r : ℤ) → b' ≡ three_quarter_turned b → c' ≡ three_quarter_turned c → d' ≡ three_quarter_turned d → SamePoints b r c d b' r c' d'
SamePoints-three_quarter b c d b' c' d' r eb ec ed = rw (eb, ec, ed) (SamePoints-three_quarter_turned b c d r)

pub SamePoints-upside_down : (b c d b' c' d' : P3) (r : ℤ) → r ≡ negsuc 0 → b' ≡ mirrored b → c' ≡ mirrored c → d' ≡ mirrored d → SamePoints b r c d b' (pos 1) c' d'
SamePoints-upside_down b c d b' c' d' r e eb ec ed = rw (eb, ec, ed) (SamePoints-mirrored b c d r e)

-- what is found of the one holds of the other
pub found_same : (b c d b' c' d' : P3) (r r' : ℤ) (o : Option Weights) → SamePoints b r c d b' r' c' d' → IfSome o (IsUprightPoint b' r' c' d') → IfSome o (IsUprightPoint b r c d)
found_same b c d b' c' d' r r' o s h = IfSome_then o h (λ k m. s.back k m)

-- and where nothing is found of the one there is nothing of the other
pub apart_same : (b c d b' c' d' : P3) (r r' : ℤ) (o : Option Weights) → SamePoints b r c d b' r' c' d' → IfNone o (IsUprightApart b' r' c' d') → IfNone o (IsUprightApart b r c d)
apart_same b c d b' c' d' r r' None s h = λ (k, m). h (k, s.there k m)
apart_same b c d b' c' d' r r' (Some x) s h = tt

-- a segment's point over a column lies beside the axis nowhere
beside : (u v w b n : ℤ) → b ≡ pos 0 → u *ℤ pos 0 +ℤ v *ℤ b +ℤ w *ℤ b ≡ n → n ≡ pos 0
beside u v w b n e h = omega (arith, sums, simp (e, products) at h)

-- ---- a triangle on the z axis that stands on the origin or hangs from it

-- beside the column
column_x : (u v p q b c d : ℤ) → b ≡ pos 0 → u *ℤ pos 0 +ℤ v *ℤ pos 0 +ℤ pos 0 *ℤ pos 0 ≡ p *ℤ c +ℤ q *ℤ d → u *ℤ pos 0 +ℤ pos 0 *ℤ b +ℤ v *ℤ b ≡ p *ℤ c +ℤ q *ℤ d
column_x u v p q b c d e h = rw e (simp products (omega (arith, sums, simp products at h)))

-- b2 is the top
pub column_found : (b c d : P3) (top : ℤ) (k : Weights) → (b.x ≡ pos 0) × (b.y ≡ pos 0) → top ≡ b.z +ℤ pos 1 → IsAxisPoint top c d k → IsUprightPoint b (pos 1) c d record { u = k.u; v = pos 0; w = k.v; p = k.p; q = k.q }
column_found b c d top k column e (zero, m) =
    record {
      corners = (m.corners.0, omega (arith, sums), m.corners.1);
      ends = m.ends;
      total = omega (arith, sums, m.total, zero);
      some = m.some;
      x = column_x k.u k.v k.p k.q b.x c.x d.x column.0 (subst (λ n. k.u *ℤ pos 0 +ℤ k.v *ℤ pos 0 +ℤ n *ℤ pos 0 ≡ k.p *ℤ c.x +ℤ k.q *ℤ d.x) zero m.x);
      y = column_x k.u k.v k.p k.q b.y c.y d.y column.1 (subst (λ n. k.u *ℤ pos 0 +ℤ k.v *ℤ pos 0 +ℤ n *ℤ pos 0 ≡ k.p *ℤ c.y +ℤ k.q *ℤ d.y) zero m.y);
      z = at_top k.u k.v k.w top b.z _ e zero m.z;
    }
  where
    at_top : (u v w top z n : ℤ) → top ≡ z +ℤ pos 1 → w ≡ pos 0 → u *ℤ pos 0 +ℤ v *ℤ (pos 0 +ℤ top) +ℤ w *ℤ (pos 0 +ℤ top) ≡ n → u *ℤ pos 0 +ℤ pos 0 *ℤ z +ℤ v *ℤ (z +ℤ pos 1) ≡ n
    at_top u v w top z n e f h = simp products (omega (arith, sums, simp (e, f, products) at h))

-- a common point of the triangle is one of the axis from the origin to the top
pub column_apart : (b c d : P3) (top : ℤ) → (b.x ≡ pos 0) × (b.y ≡ pos 0) → pos 0 ≤ℤ b.z → top ≡ b.z +ℤ pos 1 → IsAxisApart top c d → IsUprightApart b (pos 1) c d
column_apart b c d top column up e apart (k, m) =
    let high : pos 0 ≤ℤ top = omega (arith, sums) in
    let shown : Weights = record { u = top *ℤ k.u +ℤ k.v; v = k.v *ℤ b.z +ℤ k.w *ℤ top; w = pos 0; p = top *ℤ k.p; q = top *ℤ k.q } in
    let tu = *ℤ_nonnegative top k.u high m.corners.0 in
    let vz = *ℤ_nonnegative k.v b.z m.corners.1 up in
    let wt = *ℤ_nonnegative k.w top m.corners.2 high in
    apart (
      shown,
      record {
        corners = (omega (arith, sums, tu, m.corners), omega (arith, sums, vz, wt), omega (arith, sums));
        ends = (*ℤ_nonnegative top k.p high m.ends.0, *ℤ_nonnegative top k.q high m.ends.1);
        total = sum k.u k.v k.w k.p k.q b.z top e m.total;
        some = subst (λ n. pos 0 <ℤ n) (*ℤ-+ℤ top k.p k.q) (*ℤ_positive top (k.p +ℤ k.q) (omega (arith, sums)) m.some);
        x = on_axis shown.u shown.v top c.x d.x k.p k.q (beside k.u k.v k.w b.x _ column.0 m.x);
        y = on_axis shown.u shown.v top c.y d.y k.p k.q (beside k.u k.v k.w b.y _ column.1 m.y);
        z = at_height k.u k.v k.w k.p k.q b.z top c.z d.z e m.z;
      },
    )
  where
    sum : (u v w p q z top : ℤ) → top ≡ z +ℤ pos 1 → u +ℤ v +ℤ w ≡ p +ℤ q → top *ℤ u +ℤ v +ℤ (v *ℤ z +ℤ w *ℤ top) +ℤ pos 0 ≡ top *ℤ p +ℤ top *ℤ q
    sum u v w p q z top e h = rw e (simp products (omega (arith, sums, simp products at (ap (λ n. (z +ℤ pos 1) *ℤ n) h))))

    at_height : (u v w p q z top c d : ℤ) → top ≡ z +ℤ pos 1 → u *ℤ pos 0 +ℤ v *ℤ z +ℤ w *ℤ (z +ℤ pos 1) ≡ p *ℤ c +ℤ q *ℤ d
        → (top *ℤ u +ℤ v) *ℤ pos 0 +ℤ (v *ℤ z +ℤ w *ℤ top) *ℤ (pos 0 +ℤ top) +ℤ pos 0 *ℤ (pos 0 +ℤ top) ≡ top *ℤ p *ℤ c +ℤ top *ℤ q *ℤ d
    at_height u v w p q z top c d e h = rw e (simp products (omega (arith, sums, simp products at (ap (λ n. (z +ℤ pos 1) *ℤ n) h))))

-- b lies at the far end, below the origin
pub hanging_found : (b c d c' d' : P3) (top : ℤ) (k : Weights) → (b.x ≡ pos 0) × (b.y ≡ pos 0) → top ≡ neg_ℤ b.z → c' ≡ mirrored c → d' ≡ mirrored d → IsAxisPoint top c' d' k → IsUprightPoint b (pos 1) c d k
hanging_found b c d c' d' top k column e ec ed h =
    let m : IsAxisPoint top (mirrored c) (mirrored d) k = subst (λ n. IsAxisPoint top (mirrored c) n k) ed (subst (λ n. IsAxisPoint top n d' k) ec h) in
    record {
      corners = m.1.corners;
      ends = m.1.ends;
      total = m.1.total;
      some = m.1.some;
      x = rw column.0 m.1.x;
      y = rw column.1 m.1.y;
      z = at_depth k.u k.v k.w k.p k.q b.z top c.z d.z e m.0 m.1.z;
    }
  where
    at_depth : (u v w p q z top c d : ℤ) → top ≡ neg_ℤ z → w ≡ pos 0 → u *ℤ pos 0 +ℤ v *ℤ (pos 0 +ℤ top) +ℤ w *ℤ (pos 0 +ℤ top) ≡ p *ℤ neg_ℤ c +ℤ q *ℤ neg_ℤ d → u *ℤ pos 0 +ℤ v *ℤ z +ℤ w *ℤ (z +ℤ pos 1) ≡ p *ℤ c +ℤ q *ℤ d
    at_depth u v w p q z top c d e f h = rw f (simp products (omega (arith, sums, simp (e, f, products) at h)))

-- a common point of the triangle is one of the axis down to b
pub hanging_apart : (b c d c' d' : P3) (top : ℤ) → (b.x ≡ pos 0) × (b.y ≡ pos 0) → b.z <ℤ pos 0 → top ≡ neg_ℤ b.z → c' ≡ mirrored c → d' ≡ mirrored d → IsAxisApart top c' d' → IsUprightApart b (pos 1) c d
hanging_apart b c d c' d' top column down e ec ed away (k, m) =
    let apart : IsAxisApart top (mirrored c) (mirrored d) = subst (IsAxisApart top (mirrored c)) ed (subst (λ n. IsAxisApart top n d') ec away) in
    let high : pos 0 ≤ℤ top = omega (arith, sums) in
    let shown : Weights = record { u = top *ℤ k.u +ℤ k.w; v = k.v *ℤ top +ℤ k.w *ℤ (top -ℤ pos 1); w = pos 0; p = top *ℤ k.p; q = top *ℤ k.q } in
    let tu = *ℤ_nonnegative top k.u high m.corners.0 in
    let vt = *ℤ_nonnegative k.v top m.corners.1 high in
    let wt = *ℤ_nonnegative k.w (top -ℤ pos 1) m.corners.2 (omega (arith, sums)) in
    apart (
      shown,
      record {
        corners = (omega (arith, sums, tu, m.corners), omega (arith, sums, vt, wt), omega (arith, sums));
        ends = (*ℤ_nonnegative top k.p high m.ends.0, *ℤ_nonnegative top k.q high m.ends.1);
        total = sum k.u k.v k.w k.p k.q top m.total;
        some = subst (λ n. pos 0 <ℤ n) (*ℤ-+ℤ top k.p k.q) (*ℤ_positive top (k.p +ℤ k.q) (omega (arith, sums)) m.some);
        x = on_axis shown.u shown.v top c.x d.x k.p k.q (beside k.u k.v k.w b.x _ column.0 m.x);
        y = on_axis shown.u shown.v top c.y d.y k.p k.q (beside k.u k.v k.w b.y _ column.1 m.y);
        z = at_depth k.u k.v k.w k.p k.q b.z top c.z d.z e m.z;
      },
    )
  where
    sum : (u v w p q top : ℤ) → u +ℤ v +ℤ w ≡ p +ℤ q → top *ℤ u +ℤ w +ℤ (v *ℤ top +ℤ w *ℤ (top -ℤ pos 1)) +ℤ pos 0 ≡ top *ℤ p +ℤ top *ℤ q
    sum u v w p q top h = simp products (omega (arith, sums, simp products at (ap (λ n. top *ℤ n) h)))

    at_depth : (u v w p q z top c d : ℤ) → top ≡ neg_ℤ z → u *ℤ pos 0 +ℤ v *ℤ z +ℤ w *ℤ (z +ℤ pos 1) ≡ p *ℤ c +ℤ q *ℤ d
        → (top *ℤ u +ℤ w) *ℤ pos 0 +ℤ (v *ℤ top +ℤ w *ℤ (top -ℤ pos 1)) *ℤ (pos 0 +ℤ top) +ℤ pos 0 *ℤ (pos 0 +ℤ top) ≡ top *ℤ p *ℤ neg_ℤ c +ℤ top *ℤ q *ℤ neg_ℤ d
    at_depth u v w p q z top c d e h = rw e (simp products (omega (arith, sums, simp products at (ap (λ n. z *ℤ n) h))))
