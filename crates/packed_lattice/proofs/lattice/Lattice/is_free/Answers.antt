use Rattle.std.proofs.Common.{◌≡◌, ◌↔◌, ◌+◌, ◌*◌, ◌/◌, ◌<◌, ◌∙◌, Bool, true, false, not, IsTrue, length, sym, ap, subst, arith}
use Rattle.packed_lattice.specs.Packing.{word_of}
use Rattle.packed_lattice.specs.Sites.{IsSite, Sites, is_taken}
use Rattle.packed_lattice.proofs.PackingLemmas.{is_bit-read, is_taken-unpacked, word_of-lt}
use Rattle.packed_lattice.proofs.lattice.Lattice.is_free.Goals as goal

-- a site is free where its bit is not 1
free-test : (taken bit : Bool) → taken ≡ bit → IsTrue (not bit) ↔ (taken ≡ false)
free-test taken true e = grind arith
free-test taken false e = grind arith

pub index-word-requires : goal.index-word-requires
index-word-requires g c =
    let a = c.self.inside in
    let s = c.args.site in
    let i : IsSite a.shape s = subst (λ (v : Sites). IsSite v.shape s) (sym c.self.view_is) c.requires in
    omega (arith, word_of-lt a.shape a.row a.words.items s c.self.invariant i, ap (λ n. (s.z * n + s.y) * a.row + s.x / 64) c.side-side_y.ensures, a.words.ok.0)

pub returns-clause-value : goal.returns-clause-value
returns-clause-value g c =
    let a = c.self.inside in
    let s = c.args.site in
    let i : IsSite a.shape s = subst (λ (v : Sites). IsSite v.shape s) (sym c.self.view_is) c.requires in
    let at = (s.z * c.side-side_y.result + s.y) * a.row + s.x / 64 in
    let place : at ≡ word_of a.shape a.row s = ap (λ n. (s.z * n + s.y) * a.row + s.x / 64) c.side-side_y.ensures in
    let below : at < length a.words.items = omega (arith, word_of-lt a.shape a.row a.words.items s c.self.invariant i, place) in
    let read = is_bit-read a.shape a.row a.words.items s at c.index-word.result.now place below c.index-word.ensures in
    free-test (is_taken c.args.self.now s) c.has_bit.result (ap (λ v. is_taken v s) (sym c.self.view_is) ∙ is_taken-unpacked a.shape a.row a.words.items s i ∙ sym read ∙ sym c.has_bit.ensures)
