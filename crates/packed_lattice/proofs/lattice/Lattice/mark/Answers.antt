use Rattle.std.proofs.Common.{◌≡◌, ◌+◌, ◌*◌, ◌/◌, ◌<◌, ◌∙◌, length, get_or, sym, ap, subst, arith}
use Rattle.std.proofs.Math.ListN.{set}
use Rattle.std.proofs.lemmas.Nat.{and_mask}
use Rattle.std.proofs.lemmas.List.{get_or_read}
use Rattle.packed_lattice.specs.Packing.{is_bit, taken_of, unpacked, word_of}
use Rattle.packed_lattice.specs.Sites.{IsSite, Marks, Sites, is_same_site}
use Rattle.packed_lattice.proofs.PackingLemmas.{Marks-set, word_of-lt}
use Rattle.packed_lattice.proofs.lattice.Lattice.mark.Goals as goal

pub index-requires : goal.index-requires
index-requires c =
    let a = c.self.inside in
    let s = c.args.site in
    let i : IsSite a.shape s = subst (λ (v : Sites). IsSite v.shape s) (sym c.self.view_is) c.requires in
    omega (arith, word_of-lt a.shape a.row a.words.items s c.self.invariant i, ap (λ n. (s.z * n + s.y) * a.row + s.x / 64) c.side-side_y.ensures, a.words.ok.0)

pub index_mut-requires : goal.index_mut-requires
index_mut-requires c =
    let a = c.self.inside in
    let s = c.args.site in
    let i : IsSite a.shape s = subst (λ (v : Sites). IsSite v.shape s) (sym c.self.view_is) c.requires in
    omega (arith, word_of-lt a.shape a.row a.words.items s c.self.invariant i, ap (λ n. (s.z * n + s.y) * a.row + s.x / 64) c.side-side_y.ensures, a.words.ok.0)

pub returns : goal.returns
returns c =
    let a = c.self.inside in
    let s = c.args.site in
    let i : IsSite a.shape s = subst (λ (v : Sites). IsSite v.shape s) (sym c.self.view_is) c.requires in
    let at = (s.z * c.side-side_y.result + s.y) * a.row + s.x / 64 in
    let place : at ≡ word_of a.shape a.row s = ap (λ n. (s.z * n + s.y) * a.row + s.x / 64) c.side-side_y.ensures in
    let below : at < length a.words.items = omega (arith, word_of-lt a.shape a.row a.words.items s c.self.invariant i, place) in
    let old : c.index.result.now ≡ get_or a.words.items at 0 = get_or_read a.words.items at c.index.result.now below c.index.ensures 0 in
    let mask = and_mask s.x 6 in
    subst (λ (v : Sites). Marks v (unpacked a.shape a.row (set a.words.items at c.with_bit.result)) (is_same_site s) (taken_of c.args.occupancy)) c.self.view_is
    (Marks-set a.shape a.row a.words.items s at c.with_bit.result (taken_of c.args.occupancy) c.self.invariant i place
    (ap (is_bit c.with_bit.result) (sym mask) ∙ c.with_bit.ensures.same)
    (λ j l n. c.with_bit.ensures.others j l (λ e. n (e ∙ mask)) ∙ ap (λ w. is_bit w j) old))
