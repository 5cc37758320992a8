use Rattle.std.proofs.Common.{◌≡◌, ◌+◌, ◌++◌, ◌∷◌, [], None, length, sym, ap, ◌∙◌, subst, arith, rules}
use Rattle.std.proofs.lemmas.List.{length_push}
use Rattle.indexmap.specs.IndexMap.{get}
use Rattle.indexmap.proofs.CallerLemmas.{insert_entry-new}
use Rattle.bond_set.specs.BondSet as bond_set
use Rattle.bond_set.specs.BondSet.{same_vector}
use Rattle.bond_set.specs.FlatTables.{AreTables}
use Rattle.bond_set.proofs.PairLemmas.{IsNew-from_refusal, IsBondSet-push}
use Rattle.bond_set.proofs.TableLemmas.{AreTables-push}
use Rattle.bond_set.proofs.set.BondSet.push.Goals as goal

-- a new vector goes to the end of the map
added : (c : goal.After-way_told-2-1) → c.insert.new.self.entries ≡ c.args.self.now ++ (c.args.v, c.args.id) ∷ []
added c =
    let new = IsNew-from_refusal c.args.self.now c.args.v c.args.id c.requires in
    let none : get same_vector c.self.inside.ids c.args.v ≡ None = rw (sym c.self.view_is) at new.no_vector in
    c.in_ok-insert.ensures.entries ∙ insert_entry-new same_vector c.self.inside.ids c.args.v c.args.id none
    ∙ ap (λ l. l ++ (c.args.v, c.args.id) ∷ []) c.self.view_is

pub invariant_of-self-2 : goal.invariant_of-self-2
invariant_of-self-2 c =
    let new = IsNew-from_refusal c.args.self.now c.args.v c.args.id c.requires in
    let set = IsBondSet-push c.args.self.now c.args.v c.args.id (subst bond_set.IsBondSet c.self.view_is c.self.invariant.0) new in
    let near = c.self.inside.near in
    let places = c.self.inside.places in
    let near_size : length near ≡ 512 = search rules in
    let places_size : length places ≡ 256 = search rules in
    let old : AreTables c.args.self.now near places = subst (λ l. AreTables l near places) c.self.view_is c.self.invariant.1 in
    let tables = AreTables-push c.args.self.now near places c.args.v c.args.id new (omega (arith, near_size, c.key.ensures.within, c.key.ensures.value)) (omega (arith, places_size)) old in
    let count : c.len.result ≡ length c.args.self.now + 1 =
    c.len.ensures.len ∙ ap length (added c) ∙ length_push c.args.self.now (c.args.v, c.args.id) in
    rw (added c, c.key.ensures.value, count) (set, tables)

pub returns-clause-ok : goal.returns-clause-ok
returns-clause-ok c = added c
