use Rattle.std.proofs.Common.{◌≡◌, ◌*◌, ◌∙◌, length, ap, arith}
use Rattle.contact_table.specs.Contacts.{weight_of}
use Rattle.contact_table.proofs.ContactLemmas.{weight_of-no_contacts}
use Rattle.bfm_world.specs.Configuration.{Configuration}
use Rattle.network_builder.proofs.GeometryLemmas.{IsBox-network}
use Rattle.network_builder.proofs.NetworkLemmas.{placed, begun_placed, unbonded, still_placed, length-still_placed, all_joined, exact_network, bonded-network, near-network, steps-network}
use Rattle.network_builder.proofs.networks.network.Goals as goal

pub new-requires-2-clause-shape : goal.new-requires-2-clause-shape
new-requires-2-clause-shape c = IsBox-network c.args.nodes c.args.strand c.requires.network

pub join_along-requires-clause-room : goal.join_along-requires-clause-room
join_along-requires-clause-room c =
    let all : c.place_all.new.builder ≡ placed c.args.nodes c.args.strand =
    begun_placed c.args.nodes c.args.strand _ _ _ c.in_ok-builder.builder c.place_all.new.builder (ap (λ n. c.args.nodes * c.args.nodes * c.args.nodes * n) c.monomers_of_node.ensures) c.in_ok-set.ensures.order c.new.ensures c.in_ok-builder.ensures c.place_all.ensures in
    λ i. omega (arith, ap length (unbonded c.args.nodes c.args.strand c.place_all.new.builder all i))

pub join_along-requires-2-clause-room : goal.join_along-requires-2-clause-room
join_along-requires-2-clause-room c =
    let all : c.place_all.new.builder ≡ placed c.args.nodes c.args.strand =
    begun_placed c.args.nodes c.args.strand _ _ _ c.in_ok-builder.builder c.place_all.new.builder (ap (λ n. c.args.nodes * c.args.nodes * c.args.nodes * n) c.monomers_of_node.ensures) c.in_ok-set.ensures.order c.new.ensures c.in_ok-builder.ensures c.place_all.ensures in
    λ i. omega (arith, ap length (unbonded c.args.nodes c.args.strand c.place_all.new.builder all i), c.join_along.ensures.few i)

pub join_along-requires-3-clause-room : goal.join_along-requires-3-clause-room
join_along-requires-3-clause-room c =
    let all : c.place_all.new.builder ≡ placed c.args.nodes c.args.strand =
    begun_placed c.args.nodes c.args.strand _ _ _ c.in_ok-builder.builder c.place_all.new.builder (ap (λ n. c.args.nodes * c.args.nodes * c.args.nodes * n) c.monomers_of_node.ensures) c.in_ok-set.ensures.order c.new.ensures c.in_ok-builder.ensures c.place_all.ensures in
    λ i. omega (arith, ap length (unbonded c.args.nodes c.args.strand c.place_all.new.builder all i), c.join_along.ensures.few i, c.join_along-2.ensures.few i)

pub finish-requires : goal.finish-requires
finish-requires c =
    let all : c.place_all.new.builder ≡ placed c.args.nodes c.args.strand =
    begun_placed c.args.nodes c.args.strand _ _ _ c.in_ok-builder.builder c.place_all.new.builder (ap (λ n. c.args.nodes * c.args.nodes * c.args.nodes * n) c.monomers_of_node.ensures) c.in_ok-set.ensures.order c.new.ensures c.in_ok-builder.ensures c.place_all.ensures in
    length-still_placed c.args.nodes c.args.strand c.join_along-3.new.builder
    (still_placed c.args.nodes c.args.strand c.place_all.new.builder c.join_along.new.builder c.join_along-2.new.builder c.join_along-3.new.builder all c.join_along.ensures.rest c.join_along-2.ensures.rest c.join_along-3.ensures.rest)

pub returns-clause-world : goal.returns-clause-world
returns-clause-world c =
    let nodes = c.args.nodes in
    let strand = c.args.strand in
    let all : c.place_all.new.builder ≡ placed c.args.nodes c.args.strand =
    begun_placed c.args.nodes c.args.strand _ _ _ c.in_ok-builder.builder c.place_all.new.builder (ap (λ n. c.args.nodes * c.args.nodes * c.args.nodes * n) c.monomers_of_node.ensures) c.in_ok-set.ensures.order c.new.ensures c.in_ok-builder.ensures c.place_all.ensures in
    exact_network nodes strand c.join_along-3.new.builder c.finish.result
    (still_placed nodes strand c.place_all.new.builder c.join_along.new.builder c.join_along-2.new.builder c.join_along-3.new.builder all c.join_along.ensures.rest c.join_along-2.ensures.rest c.join_along-3.ensures.rest) c.finish.ensures.world
    c.finish.ensures.valid
    (all_joined nodes strand c.place_all.new.builder.world.bonds c.join_along.new.builder.world.bonds c.join_along-2.new.builder.world.bonds c.join_along-3.new.builder.world.bonds (unbonded nodes strand c.place_all.new.builder all)
    c.join_along.ensures.bonds c.join_along-2.ensures.bonds c.join_along-3.ensures.bonds)

pub returns-clause-bonded : goal.returns-clause-bonded
returns-clause-bonded c = λ i j. bonded-network c.finish.result c.args.nodes c.args.strand i j (returns-clause-world c)

pub returns-clause-steps : goal.returns-clause-steps
returns-clause-steps c = λ axis i j. steps-network c.finish.result c.args.nodes c.args.strand axis i j c.requires.network (returns-clause-world c)

pub returns-clause-near : goal.returns-clause-near
returns-clause-near c = near-network c.finish.result c.args.nodes c.args.strand c.requires.network (returns-clause-world c)

pub returns-clause-contacts : goal.returns-clause-contacts
returns-clause-contacts c = λ a b m n. ap (λ (w : Configuration). weight_of w.table a b) (returns-clause-world c) ∙ weight_of-no_contacts a b m n
