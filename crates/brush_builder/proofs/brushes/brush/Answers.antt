use Rattle.std.proofs.Common.{◌≡◌, ◌*◌, ◌≤◌, ◌∙◌, ap, sym, length, arith, rules}
use Rattle.contact_table.specs.Contacts.{weight_of}
use Rattle.contact_table.proofs.ContactLemmas.{weight_of-no_contacts}
use Rattle.bfm_world.specs.Configuration.{Configuration}
use Rattle.bfm_world.specs.Draft.{Draft}
use Rattle.bfm_world.proofs.ChainLemmas.{goes_on-last}
use Rattle.brush_builder.specs.Brush.{room_above, brush_world}
use Rattle.brush_builder.proofs.BrushLemmas.{placed, all_placed, length-placed, length-joined, may_bond-placed, bonded-brush, near-brush}
use Rattle.brush_builder.proofs.FixLemmas.{fixed-brush}
use Rattle.brush_builder.proofs.FootLemmas.{some_monomers}
use Rattle.brush_builder.proofs.brushes.brush.Goals as goal

pub new-requires-2-clause-some : goal.new-requires-2-clause-some
new-requires-2-clause-some c = rw c.feet_in.ensures (some_monomers c.args.shape c.args.spacing c.args.length (omega arith) c.requires.across c.requires.deep c.requires.some_monomers)

pub join_chains-requires-clause-placed : goal.join_chains-requires-clause-placed
join_chains-requires-clause-placed c =
    length-placed c.place_all.new.builder c.args.shape c.args.spacing c.args.length _ (all_placed c.in_ok-builder.builder c.place_all.new.builder c.args.shape c.in_ok-set.set _ c.args.spacing c.args.length _ c.in_ok-set.ensures.order c.new.ensures c.in_ok-builder.ensures c.place_all.ensures)

pub join_chains-requires-clause-whole : goal.join_chains-requires-clause-whole
join_chains-requires-clause-whole c =
    let all = all_placed c.in_ok-builder.builder c.place_all.new.builder c.args.shape c.in_ok-set.set _ c.args.spacing c.args.length (c.feet_in.result * c.args.length) c.in_ok-set.ensures.order c.new.ensures c.in_ok-builder.ensures c.place_all.ensures in
    λ k e. goes_on-last c.feet_in.result c.args.length k (omega arith) (e ∙ ap (λ (d : Draft). d.count) all)

pub join_chains-requires-clause-steps : goal.join_chains-requires-clause-steps
join_chains-requires-clause-steps c =
    let n = c.feet_in.result * c.args.length in
    let all : c.place_all.new.builder ≡ placed c.args.shape c.args.spacing c.args.length n =
    all_placed c.in_ok-builder.builder c.place_all.new.builder c.args.shape c.in_ok-set.set _ c.args.spacing c.args.length n c.in_ok-set.ensures.order c.new.ensures c.in_ok-builder.ensures c.place_all.ensures in
    let count : c.place_all.new.builder.count ≡ n = ap (λ (d : Draft). d.count) all in
    let room : c.args.length ≤ room_above c.args.shape = omega arith in
    λ k l same. may_bond-placed c.place_all.new.builder c.args.shape c.args.spacing c.args.length n k c.requires.box_limits c.requires.apart c.requires.across c.requires.deep c.requires.some_monomers room all (omega arith) same

pub finish-requires : goal.finish-requires
finish-requires c =
    let all = all_placed c.in_ok-builder.builder c.place_all.new.builder c.args.shape c.in_ok-set.set _ c.args.spacing c.args.length (c.feet_in.result * c.args.length) c.in_ok-set.ensures.order c.new.ensures c.in_ok-builder.ensures c.place_all.ensures in
    let joined = length-joined c.place_all.new.builder c.join_chains.new.builder _ c.join_chains.ensures (length-placed c.place_all.new.builder c.args.shape c.args.spacing c.args.length (c.feet_in.result * c.args.length) all) in
    ap (λ (d : Draft). length d.world.positions) c.fix_feet.ensures ∙ (joined ∙ ap (λ (d : Draft). d.count) (sym c.fix_feet.ensures))

pub returns-clause-bonded : goal.returns-clause-bonded
returns-clause-bonded c =
    let e : c.finish.result ≡ brush_world c.args.shape c.args.spacing c.args.length = search rules in
    λ i j l. bonded-brush c.finish.result c.args.shape c.args.spacing c.args.length i j e l

pub returns-clause-feet : goal.returns-clause-feet
returns-clause-feet c =
    let e : c.finish.result ≡ brush_world c.args.shape c.args.spacing c.args.length = search rules in
    λ i l. fixed-brush c.finish.result c.args.shape c.args.spacing c.args.length i e l

pub returns-clause-near : goal.returns-clause-near
returns-clause-near c =
    let e : c.finish.result ≡ brush_world c.args.shape c.args.spacing c.args.length = search rules in
    let room : c.args.length ≤ room_above c.args.shape = omega arith in
    near-brush c.finish.result c.args.shape c.args.spacing c.args.length c.requires.box_limits c.requires.apart c.requires.across c.requires.deep c.requires.some_monomers room e

pub returns-clause-contacts : goal.returns-clause-contacts
returns-clause-contacts c =
    let e : c.finish.result ≡ brush_world c.args.shape c.args.spacing c.args.length = search rules in
    λ a b m n. ap (λ (w : Configuration). weight_of w.table a b) e ∙ weight_of-no_contacts a b m n
