use Rattle.std.proofs.Common.{◌≡◌, ◌∙◌, Some, slice_get, IsTrue, sym, ap}
use Rattle.std.proofs.lemmas.Option.{slice_get-map}
use Rattle.std.specs.Map.Iter.{deref_pair}
use Rattle.std.specs.Option.{option_map}
use Rattle.bond_set.specs.BondSet as bond_set
use Rattle.bond_set.proofs.ListLemmas.{All-slice_get}
use Rattle.bond_set.proofs.PairLemmas.{extent_of-bond_vector}
use Rattle.bond_set.proofs.set.BondSet.vector.Goals as goal

pub returns-clause-reach : goal.returns-clause-reach
returns-clause-reach c =
    let v = c.unwrap.result.0.now in
    let pairs = c.self.inside.ids.entries in
    let entry = sym c.get_index.ensures.entry ∙ ap (option_map deref_pair) c.unwrap.ensures in
    let at : slice_get (bond_set.vectors_of pairs) c.args.k ≡ Some v =
    slice_get-map (λ e. e.0) pairs c.args.k ∙ ap (option_map (λ e. e.0)) entry in
    extent_of-bond_vector v (All-slice_get (λ w. IsTrue (bond_set.is_bond_vector w)) _ c.args.k v c.self.invariant.0.vectors at)
