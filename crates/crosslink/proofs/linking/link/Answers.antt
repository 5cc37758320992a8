use Rattle.std.proofs.Common.{rules, ◌≡◌, ◌<◌, length, true, false, cond, Some, None, is_some, ap, sym, ◌∙◌, subst, arith}
use Rattle.bond_set.specs.BondSet.{id_of}
use Rattle.bfm_geom.specs.Difference.{plus}
use Rattle.bfm_world.specs.Bonds.{are_bonded}
use Rattle.bfm_world.specs.Configuration.{Configuration, IsValid, position_of}
use Rattle.bfm_world.specs.Occupants.{monomer_at}
use Rattle.crosslink.specs.Linking.{in_order, is_open, link_vector, may_link}
use Rattle.crosslink.specs.Log.{TakesPair}
use Rattle.crosslink.proofs.LinkLemmas.{IsNewLink, IsNewLink-found, TakesPair-new, found_below, may_link-bonded, may_link-closed, may_link-true, new_link-found, new_link-none}
use Rattle.crosslink.proofs.linking.link.Goals as goal
use Rattle.crosslink.proofs.linking.link.Goals.{then-not-is_open-2-via-then-not-is_open-2, then-not-is_open-2-via-else-not-is_open-2+then-bonded}

pub returns-in_default-clause-pair : goal.returns-in_default-clause-pair
returns-in_default-clause-pair g c =
    let w = g.E.Engine.configuration c.args.engine.now in
    let valid : IsValid w = subst (λ (u : Configuration). IsValid u) c.world-world.ensures c.len.ensures.valid in
    let there : c.shifted.result ≡ plus (position_of w c.args.i) (link_vector c.args.dir) = search rules in
    let none : None ≡ monomer_at w c.shifted.result = search rules in
    sym (new_link-none w c.args.i c.args.dir valid c.shifted.result there none)

pub is_open-requires-2 : goal.is_open-requires-2
is_open-requires-2 g c =
    let w = g.E.Engine.configuration c.args.engine.now in
    let valid : IsValid w = subst (λ (u : Configuration). IsValid u) c.world-world.ensures c.len.ensures.valid in
    let there : c.shifted.result ≡ plus (position_of w c.args.i) (link_vector c.args.dir) = search rules in
    let some : Some c.in-Some.j ≡ monomer_at w c.shifted.result = search rules in
    let below : c.in-Some.j < length w.positions = found_below w c.args.i c.args.dir valid c.shifted.result there c.in-Some.j some in
    subst (λ (u : Configuration). c.in-Some.j < length u.positions) (sym c.world-world.ensures) below

pub returns-then-not-is_open-2-clause-pair : goal.returns-then-not-is_open-2-clause-pair
returns-then-not-is_open-2-clause-pair g c =
    let w = g.E.Engine.configuration c.args.engine.now in
    let i = c.args.i in
    let d = c.args.dir in
    let j = c.in-Some.j in
    let valid : IsValid w = subst (λ (u : Configuration). IsValid u) c.world-world.ensures c.len.ensures.valid in
    let there : c.shifted.result ≡ plus (position_of w i) (link_vector d) = search rules in
    let some : Some j ≡ monomer_at w c.shifted.result = search rules in
    let found = new_link-found w i d valid c.shifted.result there j some in
    let refused : may_link w i d j ≡ false = elim c.then-not-is_open-2.branch [
      | then-not-is_open-2-via-then-not-is_open-2 b ↦ let closed : is_open w j ≡ false = search rules in may_link-closed w i d j closed
      | then-not-is_open-2-via-else-not-is_open-2+then-bonded b ↦ let bonded : are_bonded w.bonds i j ≡ true = search rules in may_link-bonded w i d j bonded
    ] in
    sym (found ∙ ap (λ b. cond b (Some (in_order i j)) None) refused)

pub bond-requires-clause-other : goal.bond-requires-clause-other
bond-requires-clause-other g c =
    let w = g.E.Engine.configuration c.args.engine.now in
    let i = c.args.i in
    let d = c.args.dir in
    let j = c.in-Some.j in
    let valid : IsValid w = subst (λ (u : Configuration). IsValid u) c.world-world.ensures c.len.ensures.valid in
    let there : c.shifted.result ≡ plus (position_of w i) (link_vector d) = search rules in
    let some : Some j ≡ monomer_at w c.shifted.result = search rules in
    let known : is_some (id_of w.set (link_vector d)) ≡ true = search rules in
    let may : may_link w i d j ≡ true = may_link-true w i d j known (search rules) (search rules) (search rules) in
    let new : IsNewLink w c.in_order-pair.result = subst (IsNewLink w) (sym c.in_order-pair.ensures) (IsNewLink-found w i d valid c.shifted.result there j some may) in
    λ e. absurd (omega (arith, new.ordered, e))

pub bond-requires-clause-vector : goal.bond-requires-clause-vector
bond-requires-clause-vector g c =
    let w = g.E.Engine.configuration c.args.engine.now in
    let i = c.args.i in
    let d = c.args.dir in
    let j = c.in-Some.j in
    let valid : IsValid w = subst (λ (u : Configuration). IsValid u) c.world-world.ensures c.len.ensures.valid in
    let there : c.shifted.result ≡ plus (position_of w i) (link_vector d) = search rules in
    let some : Some j ≡ monomer_at w c.shifted.result = search rules in
    let known : is_some (id_of w.set (link_vector d)) ≡ true = search rules in
    let may : may_link w i d j ≡ true = may_link-true w i d j known (search rules) (search rules) (search rules) in
    let new : IsNewLink w c.in_order-pair.result = subst (IsNewLink w) (sym c.in_order-pair.ensures) (IsNewLink-found w i d valid c.shifted.result there j some may) in
    new.vector

pub bond-requires-clause-second_room : goal.bond-requires-clause-second_room
bond-requires-clause-second_room g c =
    let w = g.E.Engine.configuration c.args.engine.now in
    let i = c.args.i in
    let d = c.args.dir in
    let j = c.in-Some.j in
    let valid : IsValid w = subst (λ (u : Configuration). IsValid u) c.world-world.ensures c.len.ensures.valid in
    let there : c.shifted.result ≡ plus (position_of w i) (link_vector d) = search rules in
    let some : Some j ≡ monomer_at w c.shifted.result = search rules in
    let known : is_some (id_of w.set (link_vector d)) ≡ true = search rules in
    let may : may_link w i d j ≡ true = may_link-true w i d j known (search rules) (search rules) (search rules) in
    let new : IsNewLink w c.in_order-pair.result = subst (IsNewLink w) (sym c.in_order-pair.ensures) (IsNewLink-found w i d valid c.shifted.result there j some may) in
    new.second_room

pub returns-clause-pair : goal.returns-clause-pair
returns-clause-pair g c =
    let w = g.E.Engine.configuration c.args.engine.now in
    let i = c.args.i in
    let d = c.args.dir in
    let j = c.in-Some.j in
    let valid : IsValid w = subst (λ (u : Configuration). IsValid u) c.world-world.ensures c.len.ensures.valid in
    let there : c.shifted.result ≡ plus (position_of w i) (link_vector d) = search rules in
    let some : Some j ≡ monomer_at w c.shifted.result = search rules in
    let known : is_some (id_of w.set (link_vector d)) ≡ true = search rules in
    let may : may_link w i d j ≡ true = may_link-true w i d j known (search rules) (search rules) (search rules) in
    let new : IsNewLink w c.in_order-pair.result = subst (IsNewLink w) (sym c.in_order-pair.ensures) (IsNewLink-found w i d valid c.shifted.result there j some may) in
    ap Some c.in_order-pair.ensures ∙ sym (new_link-found w i d valid c.shifted.result there j some ∙ ap (λ b. cond b (Some (in_order i j)) None) may)

pub returns-clause-logged : goal.returns-clause-logged
returns-clause-logged g c =
    let w = g.E.Engine.configuration c.args.engine.now in
    let i = c.args.i in
    let d = c.args.dir in
    let j = c.in-Some.j in
    let valid : IsValid w = subst (λ (u : Configuration). IsValid u) c.world-world.ensures c.len.ensures.valid in
    let there : c.shifted.result ≡ plus (position_of w i) (link_vector d) = search rules in
    let some : Some j ≡ monomer_at w c.shifted.result = search rules in
    let known : is_some (id_of w.set (link_vector d)) ≡ true = search rules in
    let may : may_link w i d j ≡ true = may_link-true w i d j known (search rules) (search rules) (search rules) in
    let new : IsNewLink w c.in_order-pair.result = subst (IsNewLink w) (sym c.in_order-pair.ensures) (IsNewLink-found w i d valid c.shifted.result there j some may) in
    λ log logged. subst (λ (u : Configuration). TakesPair u log c.in_order-pair.result) (sym c.bond.ensures) (TakesPair-new w c.in_order-pair.result log valid new logged)
