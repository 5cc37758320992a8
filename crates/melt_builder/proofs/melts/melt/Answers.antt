use Rattle.std.proofs.Common.{◌≡◌, ◌*◌, ◌≤◌, ◌∙◌, ap, arith, rules}
use Rattle.contact_table.specs.Contacts.{weight_of}
use Rattle.contact_table.proofs.ContactLemmas.{weight_of-no_contacts}
use Rattle.bfm_world.specs.Configuration.{Configuration}
use Rattle.bfm_world.specs.Draft.{Draft}
use Rattle.melt_builder.specs.Melt.{cells_in, melt_world}
use Rattle.bfm_world.proofs.ChainLemmas.{goes_on-last}
use Rattle.melt_builder.proofs.MeltLemmas.{placed, all_placed, all_joined, length-placed, length-joined, may_bond-placed, bonded-melt, next-melt, near-melt}
use Rattle.melt_builder.proofs.melts.melt.Goals as goal

pub join_chains-requires-clause-placed : goal.join_chains-requires-clause-placed
join_chains-requires-clause-placed c =
    let n = c.args.chains * c.args.length in
    length-placed c.place_all.new.builder c.args.shape n (all_placed c.in_ok-builder.builder c.place_all.new.builder c.args.shape c.in_ok-set.set _ n c.in_ok-set.ensures.order c.new.ensures c.in_ok-builder.ensures c.place_all.ensures)

pub join_chains-requires-clause-whole : goal.join_chains-requires-clause-whole
join_chains-requires-clause-whole c =
    let n = c.args.chains * c.args.length in
    let all = all_placed c.in_ok-builder.builder c.place_all.new.builder c.args.shape c.in_ok-set.set _ n c.in_ok-set.ensures.order c.new.ensures c.in_ok-builder.ensures c.place_all.ensures in
    λ k e. goes_on-last c.args.chains c.args.length k (omega arith) (e ∙ ap (λ (d : Draft). d.count) all)

pub join_chains-requires-clause-steps : goal.join_chains-requires-clause-steps
join_chains-requires-clause-steps c =
    let n = c.args.chains * c.args.length in
    let all : c.place_all.new.builder ≡ placed c.args.shape n =
    all_placed c.in_ok-builder.builder c.place_all.new.builder c.args.shape c.in_ok-set.set _ n c.in_ok-set.ensures.order c.new.ensures c.in_ok-builder.ensures c.place_all.ensures in
    let count : c.place_all.new.builder.count ≡ n = ap (λ (d : Draft). d.count) all in
    λ k l same. may_bond-placed c.place_all.new.builder c.args.shape n k c.requires.box_limits all (omega arith)

pub finish-requires : goal.finish-requires
finish-requires c =
    let n = c.args.chains * c.args.length in
    let all = all_placed c.in_ok-builder.builder c.place_all.new.builder c.args.shape c.in_ok-set.set _ n c.in_ok-set.ensures.order c.new.ensures c.in_ok-builder.ensures c.place_all.ensures in
    length-joined c.join_chains.new.builder c.args.shape n c.args.length (all_joined c.place_all.new.builder c.join_chains.new.builder c.args.shape n c.args.length all c.join_chains.ensures)

pub returns-clause-bonded : goal.returns-clause-bonded
returns-clause-bonded c =
    let e : c.finish.result ≡ melt_world c.args.shape c.args.chains c.args.length = search rules in
    λ i j l. bonded-melt c.finish.result c.args.shape c.args.chains c.args.length i j e l

pub returns-clause-steps : goal.returns-clause-steps
returns-clause-steps c =
    let e : c.finish.result ≡ melt_world c.args.shape c.args.chains c.args.length = search rules in
    λ k l. next-melt c.finish.result c.args.shape c.args.chains c.args.length k c.requires.box_limits e l

pub returns-clause-near : goal.returns-clause-near
returns-clause-near c =
    let e : c.finish.result ≡ melt_world c.args.shape c.args.chains c.args.length = search rules in
    let room : c.args.chains * c.args.length ≤ cells_in c.args.shape = omega arith in
    near-melt c.finish.result c.args.shape c.args.chains c.args.length c.requires.box_limits e room

pub returns-clause-contacts : goal.returns-clause-contacts
returns-clause-contacts c =
    let e : c.finish.result ≡ melt_world c.args.shape c.args.chains c.args.length = search rules in
    λ a b m n. ap (λ (w : Configuration). weight_of w.table a b) e ∙ weight_of-no_contacts a b m n
