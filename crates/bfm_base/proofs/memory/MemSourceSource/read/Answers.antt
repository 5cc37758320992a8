use Rattle.std.proofs.Common.{◌≡◌, ◌+◌, ◌-◌, arith, sym, ap, ◌∙◌, take, drop, length, length-append, length-drop, length-take, ℕ}
use Rattle.bfm_base.proofs.GivenLemmas.{given_front, given_none}
use Rattle.bfm_base.proofs.memory.MemSourceSource.read.Goals as goal

pub returns-clause-bytes : goal.returns-clause-bytes
returns-clause-bytes c =
    let at = c.self.inside.at in
    let n = c.min-given.result in
    let bytes = c.self.inside.bytes.items in
    let copied = c.copy_from_slice.new.self in
    let len : length copied ≡ n = omega (arith, c.copy_from_slice.ensures.len, length-take {A = ℕ}) in
    let span : at + n - at ≡ n = omega arith in
    let e : copied ≡ take n (drop at bytes) = rw c.deref-2.ensures.value at (rw span at c.copy_from_slice.ensures.after) in (
      ap (λ s. s.left) (sym c.self.view_is) ∙ given_front bytes copied (drop n c.args.into.now) at n e len,
      λ none room. given_none bytes at n c.self.inside.step (length c.args.into.now) (omega arith) c.self.invariant.1 (omega (arith, length-append copied (drop n c.args.into.now), length-drop n c.args.into.now)) none,
    )
