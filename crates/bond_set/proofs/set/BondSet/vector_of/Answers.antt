use Rattle.std.proofs.Common.{◌≡◌, None, Some, Option, IsSome, IfSome, ◌↔◌, Contains, sym, subst}
use Rattle.bfm_base.specs.declared.place.P3.{P3}
use Rattle.bond_set.specs.BondSet as bond_set
use Rattle.bond_set.proofs.PairLemmas.{vector_of-present, vector_of-pair}
use Rattle.bond_set.proofs.TableLemmas.{vector_of-zero, vector_of-entry}
use Rattle.bond_set.proofs.set.BondSet.vector_of.Goals as goal

-- no vector has the identifier
absent : (c : goal.Then-count-eq0) → bond_set.vector_of c.args.self.now c.args.id ≡ None
absent c = rw (← c.self.view_is) (vector_of-zero _ c.self.inside.near c.self.inside.places c.args.id c.self.invariant.1 c.if-count-eq0.true)

-- one does
present : (c : goal.After-vector) → bond_set.vector_of c.args.self.now c.args.id ≡ Some c.vector.result
present c =
    let at = rw (← c.self.view_is) at c.vector.ensures.value in
    rw (← c.self.view_is) (vector_of-entry _ c.self.inside.near c.self.inside.places c.args.id c.vector.result c.self.invariant.1 c.if-count-eq0.false at)

pub returns-then-count-eq0-clause-value : goal.returns-then-count-eq0-clause-value
returns-then-count-eq0-clause-value c = sym (absent c)

pub returns-then-count-eq0-clause-present : goal.returns-then-count-eq0-clause-present
returns-then-count-eq0-clause-present c =
    subst (λ (o : Option P3). IsSome o ↔ Contains (bond_set.ids_of c.args.self.now) c.args.id) (absent c) (vector_of-present c.args.self.now c.args.id)

pub returns-clause-value : goal.returns-clause-value
returns-clause-value c = sym (present c)

pub returns-clause-present : goal.returns-clause-present
returns-clause-present c =
    subst (λ (o : Option P3). IsSome o ↔ Contains (bond_set.ids_of c.args.self.now) c.args.id) (present c) (vector_of-present c.args.self.now c.args.id)

pub returns-clause-pair : goal.returns-clause-pair
returns-clause-pair c =
    subst (λ (o : Option P3). IfSome o (λ v. Contains c.args.self.now (v, c.args.id))) (present c) (vector_of-pair c.args.self.now c.args.id)
