-- Cubes and faces, site by site.
use Rattle.std.proofs.Common.{◌≡◌, ◌≢◌, ℕ, ◌<◌, ◌≤◌, Bool, true, false, not, ◌&&◌, ◌||◌, ◌↔◌, inl, inr, cond, IsTrue, eqb, refl, sym, ◌∙◌, ap, subst, arith, ℤ, pos, negsuc, ◌+ℤ◌}
use Rattle.std.proofs.lemmas.Int.{ints}
use Rattle.std.proofs.lemmas.Bool.{both_ways, or_cases, or_left, or_right}
use Rattle.std.proofs.lemmas.Bool.Decides.{eqb_tells}
use Rattle.bfm_base.specs.declared.place.P3.{P3}
use Rattle.bfm_base.specs.declared.place.Dir.{Dir}
use Rattle.bfm_base.specs.declared.place.Shape.{Shape}
use Rattle.bfm_base.specs.Direction.{step_of}
use Rattle.bfm_geom.specs.Difference.{IsSide, plus, side_of}
use Rattle.bfm_geom.proofs.DifferenceLemmas.{P3-same}
use Rattle.packed_lattice.specs.declared.site.Site.{Site}
use Rattle.packed_lattice.specs.declared.site.Pair.{Pair}
use Rattle.packed_lattice.specs.declared.site.Cube.{Cube}
use Rattle.packed_lattice.specs.Sites.{AreTaken, IsSite, Marks, Shifts, Sites, covers, folded, is_taken, newly_covers, newly_leaves}
use Rattle.packed_lattice.specs.Cube.{AreSites, cube_at, is_in, is_in_pair, next_along, pair_at, previous_along}
use Rattle.packed_lattice.proofs.FoldLemmas.{folded-down, folded-up, folded_turns, next_along-cases}

-- one coordinate twice
abbrev pub flat : ℕ → Pair
flat n = record { near = n; far = n }

-- what a monomer fills along an axis is its folded coordinate and the next
pub pair_at-is : (side : ℕ) (c : ℤ) (near far : ℕ) → 0 < side → near ≡ folded side c → far ≡ next_along side near → record { near = near; far = far } ≡ pair_at side c
pair_at-is side c near far h e n =
    let at : ℕ → ℕ → Pair = λ a b. record { near = a; far = b } in
    ap (λ m. at near m) (n ∙ ap (next_along side) e ∙ sym (folded-up side c h)) ∙ ap (λ m. at m (folded side (c +ℤ pos 1))) e

-- three coordinates in a row are apart, since a side has at least three
apart : (side a : ℕ) → 3 ≤ side → a < side → (a ≢ next_along side a) × (next_along side a ≢ next_along side (next_along side a)) × (a ≢ next_along side (next_along side a))
apart side a h l =
    let n = next_along-cases side a in
    let m = next_along-cases side (next_along side a) in
    grind (arith, n, m)

-- of two pairs in a row, what the upper has alone, and what the lower has alone
upper_alone : (a b d x : ℕ) → a ≢ d → b ≢ d → (eqb x d || eqb x d) ≡ ((eqb x b || eqb x d) && not (eqb x a || eqb x b))
upper_alone a b d x p q = grind (arith, eqb_tells x a, eqb_tells x b, eqb_tells x d)

lower_alone : (a b d x : ℕ) → a ≢ b → a ≢ d → (eqb x a || eqb x a) ≡ ((eqb x a || eqb x b) && not (eqb x b || eqb x d))
lower_alone a b d x p q = grind (arith, eqb_tells x a, eqb_tells x b, eqb_tells x d)

three : (side : ℕ) (c : ℤ) → IsSide side
    → (folded side c ≢ folded side (c +ℤ pos 1)) × (folded side (c +ℤ pos 1) ≢ folded side (c +ℤ pos 1 +ℤ pos 1)) × (folded side c ≢ folded side (c +ℤ pos 1 +ℤ pos 1))
three side c h =
    let a = folded side c in
    let q = apart side a (omega arith) (folded_turns side c (omega arith)).1.1 in
    let e : folded side (c +ℤ pos 1) ≡ next_along side a = folded-up side c (omega arith) in
    let f : folded side (c +ℤ pos 1 +ℤ pos 1) ≡ next_along side (next_along side a) = folded-up side (c +ℤ pos 1) (omega arith) ∙ ap (next_along side) e in
    (λ d. q.0 (d ∙ e), λ d. q.1 (sym e ∙ d ∙ f), λ d. q.2 (d ∙ f))

down_up : (c : ℤ) → c +ℤ negsuc 0 +ℤ pos 1 ≡ c
down_up c = omega (arith, ints)

-- what a step up or down along an axis newly fills there, and what it leaves
pub enters-up : (side : ℕ) (c : ℤ) (n x : ℕ) → IsSide side → n ≡ next_along side (folded side (c +ℤ pos 1))
    → is_in_pair (flat n) x ≡ (is_in_pair (pair_at side (c +ℤ pos 1)) x && not (is_in_pair (pair_at side c) x))
enters-up side c n x h e =
    let t = three side c h in
    ap (λ m. is_in_pair (flat m) x) (e ∙ sym (folded-up side (c +ℤ pos 1) (omega arith))) ∙ upper_alone (folded side c) (folded side (c +ℤ pos 1)) (folded side (c +ℤ pos 1 +ℤ pos 1)) x t.2 t.1

pub leaves-up : (side : ℕ) (c : ℤ) (n x : ℕ) → IsSide side → n ≡ folded side c
    → is_in_pair (flat n) x ≡ (is_in_pair (pair_at side c) x && not (is_in_pair (pair_at side (c +ℤ pos 1)) x))
leaves-up side c n x h e =
    let t = three side c h in
    ap (λ m. is_in_pair (flat m) x) e ∙ lower_alone (folded side c) (folded side (c +ℤ pos 1)) (folded side (c +ℤ pos 1 +ℤ pos 1)) x t.0 t.2

pub enters-down : (side : ℕ) (c : ℤ) (n x : ℕ) → IsSide side → n ≡ previous_along side (folded side c)
    → is_in_pair (flat n) x ≡ (is_in_pair (pair_at side (c +ℤ negsuc 0)) x && not (is_in_pair (pair_at side c) x))
enters-down side c n x h e =
    subst (λ k. is_in_pair (flat n) x ≡ (is_in_pair (pair_at side (c +ℤ negsuc 0)) x && not (is_in_pair (pair_at side k) x))) (down_up c)
    (leaves-up side (c +ℤ negsuc 0) n x h (e ∙ sym (folded-down side c (omega arith))))

pub leaves-down : (side : ℕ) (c : ℤ) (n x : ℕ) → IsSide side → n ≡ folded side (c +ℤ pos 1)
    → is_in_pair (flat n) x ≡ (is_in_pair (pair_at side c) x && not (is_in_pair (pair_at side (c +ℤ negsuc 0)) x))
leaves-down side c n x h e =
    let back : c +ℤ pos 1 ≡ c +ℤ negsuc 0 +ℤ pos 1 +ℤ pos 1 = ap (λ k. k +ℤ pos 1) (sym (down_up c)) in
    subst (λ k. is_in_pair (flat n) x ≡ (is_in_pair (pair_at side k) x && not (is_in_pair (pair_at side (c +ℤ negsuc 0)) x))) (down_up c)
    (enters-up side (c +ℤ negsuc 0) n x h (e ∙ ap (folded side) back ∙ folded-up side (c +ℤ negsuc 0 +ℤ pos 1) (omega arith)))

-- what is filled along the other two axes stays
beside_x : (f a a' b c : Bool) → f ≡ (a && not a') → (f && b && c) ≡ ((a && b && c) && not (a' && b && c))
beside_x f a a' b c p = grind arith

beside_y : (f a b b' c : Bool) → f ≡ (b && not b') → (a && f && c) ≡ ((a && b && c) && not (a && b' && c))
beside_y f a b b' c p = grind arith

beside_z : (f a b c c' : Bool) → f ≡ (c && not c') → (a && b && f) ≡ ((a && b && c) && not (a && b && c'))
beside_z f a b c c' p = grind arith

still : (c : ℤ) → c +ℤ pos 0 ≡ c
still c = omega (arith, ints)

stepped_x : (p : P3) (k : ℤ) → plus p record { x = k; y = pos 0; z = pos 0 } ≡ record { x = p.x +ℤ k; y = p.y; z = p.z }
stepped_x p k = P3-same _ _ refl (still p.y) (still p.z)

stepped_y : (p : P3) (k : ℤ) → plus p record { x = pos 0; y = k; z = pos 0 } ≡ record { x = p.x; y = p.y +ℤ k; z = p.z }
stepped_y p k = P3-same _ _ (still p.x) refl (still p.z)

stepped_z : (p : P3) (k : ℤ) → plus p record { x = pos 0; y = pos 0; z = k } ≡ record { x = p.x; y = p.y; z = p.z +ℤ k }
stepped_z p k = P3-same _ _ (still p.x) (still p.y) refl

-- the face that a step along an axis enters, and the one that it leaves
pub enters_x : (shape : Shape) (p : P3) (cube : Cube) (pair : Pair) (k : ℤ) (n : ℕ) (s : Site) → cube ≡ cube_at shape p → pair ≡ flat n
    → is_in_pair (flat n) s.x ≡ (is_in_pair (pair_at (side_of shape 0) (p.x +ℤ k)) s.x && not (is_in_pair (pair_at (side_of shape 0) p.x) s.x))
    → is_in record { xs = pair; ys = cube.ys; zs = cube.zs } s ≡ (covers shape (plus p record { x = k; y = pos 0; z = pos 0 }) s && not (covers shape p s))
enters_x shape p cube pair k n s e f h =
    ap (λ t. is_in record { xs = t; ys = cube.ys; zs = cube.zs } s) f ∙ ap (λ (c : Cube). is_in record { xs = flat n; ys = c.ys; zs = c.zs } s) e
    ∙ beside_x (is_in_pair (flat n) s.x) (is_in_pair (pair_at (side_of shape 0) (p.x +ℤ k)) s.x) (is_in_pair (pair_at (side_of shape 0) p.x) s.x) (is_in_pair (pair_at (side_of shape 1) p.y) s.y) (is_in_pair (pair_at (side_of shape 2) p.z) s.z) h
    ∙ ap (λ (q : P3). covers shape q s && not (covers shape p s)) (sym (stepped_x p k))

pub leaves_x : (shape : Shape) (p : P3) (cube : Cube) (pair : Pair) (k : ℤ) (n : ℕ) (s : Site) → cube ≡ cube_at shape p → pair ≡ flat n
    → is_in_pair (flat n) s.x ≡ (is_in_pair (pair_at (side_of shape 0) p.x) s.x && not (is_in_pair (pair_at (side_of shape 0) (p.x +ℤ k)) s.x))
    → is_in record { xs = pair; ys = cube.ys; zs = cube.zs } s ≡ (covers shape p s && not (covers shape (plus p record { x = k; y = pos 0; z = pos 0 }) s))
leaves_x shape p cube pair k n s e f h =
    ap (λ t. is_in record { xs = t; ys = cube.ys; zs = cube.zs } s) f ∙ ap (λ (c : Cube). is_in record { xs = flat n; ys = c.ys; zs = c.zs } s) e
    ∙ beside_x (is_in_pair (flat n) s.x) (is_in_pair (pair_at (side_of shape 0) p.x) s.x) (is_in_pair (pair_at (side_of shape 0) (p.x +ℤ k)) s.x) (is_in_pair (pair_at (side_of shape 1) p.y) s.y) (is_in_pair (pair_at (side_of shape 2) p.z) s.z) h
    ∙ ap (λ (q : P3). covers shape p s && not (covers shape q s)) (sym (stepped_x p k))

pub enters_y : (shape : Shape) (p : P3) (cube : Cube) (pair : Pair) (k : ℤ) (n : ℕ) (s : Site) → cube ≡ cube_at shape p → pair ≡ flat n
    → is_in_pair (flat n) s.y ≡ (is_in_pair (pair_at (side_of shape 1) (p.y +ℤ k)) s.y && not (is_in_pair (pair_at (side_of shape 1) p.y) s.y))
    → is_in record { xs = cube.xs; ys = pair; zs = cube.zs } s ≡ (covers shape (plus p record { x = pos 0; y = k; z = pos 0 }) s && not (covers shape p s))
enters_y shape p cube pair k n s e f h =
    ap (λ t. is_in record { xs = cube.xs; ys = t; zs = cube.zs } s) f ∙ ap (λ (c : Cube). is_in record { xs = c.xs; ys = flat n; zs = c.zs } s) e
    ∙ beside_y (is_in_pair (flat n) s.y) (is_in_pair (pair_at (side_of shape 0) p.x) s.x) (is_in_pair (pair_at (side_of shape 1) (p.y +ℤ k)) s.y) (is_in_pair (pair_at (side_of shape 1) p.y) s.y) (is_in_pair (pair_at (side_of shape 2) p.z) s.z) h
    ∙ ap (λ (q : P3). covers shape q s && not (covers shape p s)) (sym (stepped_y p k))

pub leaves_y : (shape : Shape) (p : P3) (cube : Cube) (pair : Pair) (k : ℤ) (n : ℕ) (s : Site) → cube ≡ cube_at shape p → pair ≡ flat n
    → is_in_pair (flat n) s.y ≡ (is_in_pair (pair_at (side_of shape 1) p.y) s.y && not (is_in_pair (pair_at (side_of shape 1) (p.y +ℤ k)) s.y))
    → is_in record { xs = cube.xs; ys = pair; zs = cube.zs } s ≡ (covers shape p s && not (covers shape (plus p record { x = pos 0; y = k; z = pos 0 }) s))
leaves_y shape p cube pair k n s e f h =
    ap (λ t. is_in record { xs = cube.xs; ys = t; zs = cube.zs } s) f ∙ ap (λ (c : Cube). is_in record { xs = c.xs; ys = flat n; zs = c.zs } s) e
    ∙ beside_y (is_in_pair (flat n) s.y) (is_in_pair (pair_at (side_of shape 0) p.x) s.x) (is_in_pair (pair_at (side_of shape 1) p.y) s.y) (is_in_pair (pair_at (side_of shape 1) (p.y +ℤ k)) s.y) (is_in_pair (pair_at (side_of shape 2) p.z) s.z) h
    ∙ ap (λ (q : P3). covers shape p s && not (covers shape q s)) (sym (stepped_y p k))

pub enters_z : (shape : Shape) (p : P3) (cube : Cube) (pair : Pair) (k : ℤ) (n : ℕ) (s : Site) → cube ≡ cube_at shape p → pair ≡ flat n
    → is_in_pair (flat n) s.z ≡ (is_in_pair (pair_at (side_of shape 2) (p.z +ℤ k)) s.z && not (is_in_pair (pair_at (side_of shape 2) p.z) s.z))
    → is_in record { xs = cube.xs; ys = cube.ys; zs = pair } s ≡ (covers shape (plus p record { x = pos 0; y = pos 0; z = k }) s && not (covers shape p s))
enters_z shape p cube pair k n s e f h =
    ap (λ t. is_in record { xs = cube.xs; ys = cube.ys; zs = t } s) f ∙ ap (λ (c : Cube). is_in record { xs = c.xs; ys = c.ys; zs = flat n } s) e
    ∙ beside_z (is_in_pair (flat n) s.z) (is_in_pair (pair_at (side_of shape 0) p.x) s.x) (is_in_pair (pair_at (side_of shape 1) p.y) s.y) (is_in_pair (pair_at (side_of shape 2) (p.z +ℤ k)) s.z) (is_in_pair (pair_at (side_of shape 2) p.z) s.z) h
    ∙ ap (λ (q : P3). covers shape q s && not (covers shape p s)) (sym (stepped_z p k))

pub leaves_z : (shape : Shape) (p : P3) (cube : Cube) (pair : Pair) (k : ℤ) (n : ℕ) (s : Site) → cube ≡ cube_at shape p → pair ≡ flat n
    → is_in_pair (flat n) s.z ≡ (is_in_pair (pair_at (side_of shape 2) p.z) s.z && not (is_in_pair (pair_at (side_of shape 2) (p.z +ℤ k)) s.z))
    → is_in record { xs = cube.xs; ys = cube.ys; zs = pair } s ≡ (covers shape p s && not (covers shape (plus p record { x = pos 0; y = pos 0; z = k }) s))
leaves_z shape p cube pair k n s e f h =
    ap (λ t. is_in record { xs = cube.xs; ys = cube.ys; zs = t } s) f ∙ ap (λ (c : Cube). is_in record { xs = c.xs; ys = c.ys; zs = flat n } s) e
    ∙ beside_z (is_in_pair (flat n) s.z) (is_in_pair (pair_at (side_of shape 0) p.x) s.x) (is_in_pair (pair_at (side_of shape 1) p.y) s.y) (is_in_pair (pair_at (side_of shape 2) p.z) s.z) (is_in_pair (pair_at (side_of shape 2) (p.z +ℤ k)) s.z) h
    ∙ ap (λ (q : P3). covers shape p s && not (covers shape q s)) (sym (stepped_z p k))

-- a cube is its lower and its upper half
halves : (a b c d : Bool) → (a && b && (c || d)) ≡ ((a && b && (c || c)) || (a && b && (d || d)))
halves a b c d = grind arith

abbrev pub lower_of : Cube → Cube
lower_of cube = record { xs = cube.xs; ys = cube.ys; zs = flat cube.zs.near }

abbrev pub upper_of : Cube → Cube
upper_of cube = record { xs = cube.xs; ys = cube.ys; zs = flat cube.zs.far }

pub is_in-halves : (cube : Cube) (s : Site) → is_in cube s ≡ (is_in (lower_of cube) s || is_in (upper_of cube) s)
is_in-halves cube s = halves (is_in_pair cube.xs s.x) (is_in_pair cube.ys s.y) (eqb s.z cube.zs.near) (eqb s.z cube.zs.far)

-- all its sites are free, or all taken, where those of both halves are
abbrev AllAre : Sites → Bool → (Site → Bool) → Type 0
AllAre sites taken these = (s : Site) → IsSite sites.shape s → these s ≡ true → is_taken sites s ≡ taken

pub all-halves : (sites : Sites) (taken : Bool) (cube : Cube) → (AllAre sites taken (is_in (lower_of cube)) × AllAre sites taken (is_in (upper_of cube))) ↔ AllAre sites taken (is_in cube)
all-halves sites taken cube = (
  λ h s i e. elim (or_cases (is_in (lower_of cube) s) (is_in (upper_of cube) s) (sym (is_in-halves cube s) ∙ e)) [ inl l ↦ h.0 s i l | inr u ↦ h.1 s i u ],
  λ h. (λ s i e. h s i (is_in-halves cube s ∙ or_left _ _ e), λ s i e. h s i (is_in-halves cube s ∙ or_right _ _ e)),
)

-- a test of the lower half and then, where it is free, of the upper half tests both
pub both-free : (Lower Upper Both : Type 0) (lower upper : Bool) → ((Lower × Upper) ↔ Both) → (IsTrue lower ↔ Lower) → lower ≡ true → (IsTrue upper ↔ Upper) → IsTrue upper ↔ Both
both-free Lower Upper Both lower upper h l e u = (λ t. h.0 (l.0 e, u.0 t), λ b. u.1 (h.1 b).1)

pub lower-taken : (Lower Upper Both : Type 0) (lower result : Bool) → ((Lower × Upper) ↔ Both) → (IsTrue lower ↔ Lower) → lower ≡ false → result ≡ lower → IsTrue result ↔ Both
lower-taken Lower Upper Both lower result h l e r = (λ t. absurd (both_ways result (r ∙ e) t), λ b. r ∙ l.1 (h.1 b).0)

-- of a site that the old cube and the new one cover, neither face says anything, and it is taken
moved : (new old taken : Bool) → (old ≡ true → taken ≡ true) → cond (new && not old) true (cond (old && not new) false taken) ≡ cond new true (cond old false taken)
moved true true taken h = h refl
moved true false taken h = refl
moved false true taken h = refl
moved false false taken h = refl

-- to free the face that is left and then take the face that is entered moves the cube
pub Shifts-faces : (old mid new : Sites) (p : P3) (dir : Dir) (left entered : Cube) → AreTaken old (covers old.shape p)
    → AreSites old.shape left (newly_leaves old.shape p dir) → AreSites old.shape entered (newly_covers old.shape p dir)
    → Marks old mid (is_in left) false → Marks mid new (is_in entered) true → Shifts old new p dir
Shifts-faces old mid new p dir left entered taken l e m n = record {
  shape = n.shape ∙ m.shape;
  sites = λ s i.
      n.sites s (subst (λ (shape : Shape). IsSite shape s) (sym m.shape) i)
      ∙ ap (cond (is_in entered s) true) (m.sites s i)
      ∙ ap (λ b. cond b true (cond (is_in left s) false (is_taken old s))) (e s i)
      ∙ ap (λ b. cond (newly_covers old.shape p dir s) true (cond b false (is_taken old s))) (l s i)
      ∙ moved (covers old.shape (plus p (step_of dir)) s) (covers old.shape p s) (is_taken old s) (taken s i);
}
