use Rattle.std.proofs.Common.{◌≡◌, None, Some, Option, ℕ, IsSome, IfSome, ◌↔◌, Contains, get_or, sym, subst, ◌∙◌, ap}
use Rattle.bond_set.specs.BondSet as bond_set
use Rattle.bond_set.proofs.PairLemmas.{id_of-present, id_of-pair}
use Rattle.bond_set.proofs.TableLemmas.{id_of-zero, id_of-entry}
use Rattle.bond_set.proofs.set.BondSet.id_of.Goals as goal

-- no identifier stands at the key
absent : (c : goal.Then-id-eq0) → bond_set.id_of c.args.self.now c.args.v ≡ None
absent c =
    let zero = sym (ap (λ k. get_or c.self.inside.near k 0) c.key.ensures.value) ∙ c.if-id-eq0.true in
    rw (← c.self.view_is) (id_of-zero _ c.self.inside.near c.self.inside.places c.args.v c.self.invariant.0 c.self.invariant.1 zero)

-- one does
present : (c : goal.Else-id-eq0) → bond_set.id_of c.args.self.now c.args.v ≡ Some (get_or c.self.inside.near c.key.result 0)
present c =
    let e = ap (λ k. get_or c.self.inside.near k 0) c.key.ensures.value in
    rw (e, ← c.self.view_is) (id_of-entry _ c.self.inside.near c.self.inside.places c.args.v c.self.invariant.1 (λ zero. c.if-id-eq0.false (e ∙ zero)))

pub returns-then-id-eq0-clause-value : goal.returns-then-id-eq0-clause-value
returns-then-id-eq0-clause-value c = sym (absent c)

pub returns-then-id-eq0-clause-present : goal.returns-then-id-eq0-clause-present
returns-then-id-eq0-clause-present c =
    subst (λ (o : Option ℕ). IsSome o ↔ Contains (bond_set.vectors_of c.args.self.now) c.args.v) (absent c) (id_of-present c.args.self.now c.args.v)

pub returns-clause-value : goal.returns-clause-value
returns-clause-value c = sym (present c)

pub returns-clause-present : goal.returns-clause-present
returns-clause-present c =
    subst (λ (o : Option ℕ). IsSome o ↔ Contains (bond_set.vectors_of c.args.self.now) c.args.v) (present c) (id_of-present c.args.self.now c.args.v)

pub returns-clause-pair : goal.returns-clause-pair
returns-clause-pair c =
    subst (λ (o : Option ℕ). IfSome o (λ id. Contains c.args.self.now (c.args.v, id))) (present c) (id_of-pair c.args.self.now c.args.v)
