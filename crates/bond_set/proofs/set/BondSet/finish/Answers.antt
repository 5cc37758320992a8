use Rattle.std.proofs.Common.{◌≡◌, ◌+◌, ◌≤◌, refl, rules, arith, true, false, cond, Some, None, drop, find, length, sym, ap, ◌∙◌}
use Rattle.std.proofs.lemmas.List.{length-map, drop_all}
use Rattle.bond_set.specs.BondSet.{vectors_of, is_unpaired, first_unpaired}
use Rattle.bond_set.proofs.ListLemmas.{find-drop}
use Rattle.bond_set.proofs.PairLemmas.{IsSymmetric-from_none, first_unpaired-symmetric}
use Rattle.bond_set.proofs.set.BondSet.finish.Goals as goal

-- the search stops at a vector without its negative
found : (c : goal.Then-is_none) → first_unpaired c.args.self.now ≡ Some c.vector-v.result
found c =
    let pairs = c.args.self.now in
    let v = c.vector-v.result in
    let unpaired : is_unpaired pairs v ≡ true = search rules in
    let rest = find (is_unpaired pairs) (drop (c.loop-k.k + 1) (vectors_of pairs)) in
    sym c.loop-k.invariant ∙ find-drop (is_unpaired pairs) (vectors_of pairs) c.loop-k.k v c.vector-v.ensures.value
    ∙ ap (λ b. cond b (Some v) rest) unpaired

pub returns-then-is_none-clause-symmetric : goal.returns-then-is_none-clause-symmetric
returns-then-is_none-clause-symmetric c =
    (λ h. cc, λ all. absurd (let none = first_unpaired-symmetric c.args.self.now all in let some = found c in cc))

pub returns-then-is_none-clause-first : goal.returns-then-is_none-clause-first
returns-then-is_none-clause-first c = found c

pub loop-k-preserved : goal.loop-k-preserved
loop-k-preserved c =
    let pairs = c.args.self.now in
    let v = c.vector-v.result in
    let paired : is_unpaired pairs v ≡ false = search rules in
    let rest = find (is_unpaired pairs) (drop (c.loop-k.k + 1) (vectors_of pairs)) in
    sym (ap (λ b. cond b (Some v) rest) paired)
    ∙ sym (find-drop (is_unpaired pairs) (vectors_of pairs) c.loop-k.k v c.vector-v.ensures.value) ∙ c.loop-k.invariant

-- the search came to the end
not_found : (c : goal.After-loop-k) → first_unpaired c.args.self.now ≡ None
not_found c =
    let vectors = vectors_of c.args.self.now in
    let past : length vectors ≤ c.loop-k.k = omega (arith, length-map c.args.self.now (λ e. e.0)) in
    sym c.loop-k.invariant ∙ ap (find (is_unpaired c.args.self.now)) (drop_all c.loop-k.k vectors past)

pub returns-clause-symmetric : goal.returns-clause-symmetric
returns-clause-symmetric c = (λ _. IsSymmetric-from_none c.args.self.now (not_found c), λ _. refl)

pub returns-clause-none : goal.returns-clause-none
returns-clause-none c = not_found c
