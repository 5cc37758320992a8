use Rattle.std.proofs.Common.{◌≡◌, ◌∙◌, ◌&&◌, ap, arith, get_or, not, subst, sym, take}
use Rattle.std.specs.Prelude.{slice_get, slice_index}
use Rattle.std.proofs.lemmas.List.{take_all}
use Rattle.std.proofs.lemmas.List.Elements.{Contains-get_or}
use Rattle.std.proofs.lemmas.List.Folds.{list_all_more}
use Rattle.bfm_base.specs.declared.place.P3.{P3}
use Rattle.bfm_base.specs.declared.place.Shape.{Shape}
use Rattle.bfm_geom.specs.Difference.{minus, wrapped}
use Rattle.bond_set.specs.FlatTables.{key_of}
use Rattle.packed_lattice.specs.Sites.{IsSite}
use Rattle.bfm_world.specs.Bonds.{neighbours_of}
use Rattle.bfm_world.specs.Configuration.{keeps_bonds, may_reach, target_of}
use Rattle.bfm_world.specs.Sweeping.{bond_from}
use Rattle.packed_engine.specs.declared.spots.Spot.{Spot}
use Rattle.packed_engine.specs.Spots.{allows, place_in, site_in, spot_at}
use Rattle.packed_engine.proofs.SpotLemmas.{IsSite-spot, bond_from-spots, may_reach-allowed, neighbour_within}
use Rattle.packed_engine.proofs.StepLemmas.{allows-and, allows-none}
use Rattle.packed_engine.proofs.steps.steps_of.Goals as goal

pub returns-then-fixed : goal.returns-then-fixed
returns-then-fixed c dir =
    let w = c.args.world.now in
    allows-none dir ∙ ap (λ b. not b && keeps_bonds w.shape w.set w.positions (neighbours_of w.bonds c.args.monomer) (target_of w c.args.monomer dir)) (sym c.if-fixed.true ∙ c.fixed.ensures)

pub bond_vector-requires-clause-here : goal.bond_vector-requires-clause-here
bond_vector-requires-clause-here c =
    let w = c.args.world.now in
    let valid = c.len.ensures.valid in
    subst (λ (s : Shape). IsSite s (site_in c.at-here.result)) (sym c.shape-shape.ensures.shape)
    (subst (λ (s : Spot). IsSite w.shape (site_in s)) (sym c.at-here.ensures) (IsSite-spot w valid c.args.spots.now c.requires.placed c.args.monomer c.requires.monomer))

pub at-there-requires : goal.at-there-requires
at-there-requires c =
    let items = c.neighbours-neighbour-items.result.now in
    let j = get_or items c.loop-neighbour.neighbour-index 0 in
    let bond = (c.neighbours-neighbour-items.ensures.listed j).0 (Contains-get_or items c.loop-neighbour.neighbour-index 0 c.loop-neighbour-test.true) in
    omega (arith, c.requires.placed.count, neighbour_within c.args.world.now c.len.ensures.valid c.args.allowed.now c.requires.allowed c.args.monomer j bond)

pub bond_vector-requires-clause-there : goal.bond_vector-requires-clause-there
bond_vector-requires-clause-there c =
    let w = c.args.world.now in
    let valid = c.len.ensures.valid in
    let items = c.neighbours-neighbour-items.result.now in
    let j = get_or items c.loop-neighbour.neighbour-index 0 in
    let bond = (c.neighbours-neighbour-items.ensures.listed j).0 (Contains-get_or items c.loop-neighbour.neighbour-index 0 c.loop-neighbour-test.true) in
    subst (λ (s : Shape). IsSite s (site_in c.at-there.result)) (sym c.shape-shape.ensures.shape)
    (subst (λ (s : Spot). IsSite w.shape (site_in s)) (sym c.at-there.ensures)
    (IsSite-spot w valid c.args.spots.now c.requires.placed j (neighbour_within w valid c.args.allowed.now c.requires.allowed c.args.monomer j bond)))

pub loop-neighbour-preserved : goal.loop-neighbour-preserved
loop-neighbour-preserved c dir =
    let w = c.args.world.now in
    let i = c.args.monomer in
    let valid = c.len.ensures.valid in
    let items = c.neighbours-neighbour-items.result.now in
    let n = c.loop-neighbour.neighbour-index in
    let j = get_or items n 0 in
    let bond = (c.neighbours-neighbour-items.ensures.listed j).0 (Contains-get_or items n 0 c.loop-neighbour-test.true) in
    let within = neighbour_within w valid c.args.allowed.now c.requires.allowed i j bond in
    let vector : c.bond_vector.result ≡ bond_from w i j =
    c.bond_vector.ensures ∙ ap (λ (s : Shape). wrapped s (minus (place_in c.at-there.result) (place_in c.at-here.result))) c.shape-shape.ensures.shape
    ∙ ap (λ (s : Spot). wrapped w.shape (minus (place_in s) (place_in c.at-here.result))) c.at-there.ensures
    ∙ ap (λ (s : Spot). wrapped w.shape (minus (place_in (spot_at c.args.spots.now j)) (place_in s))) c.at-here.ensures
    ∙ bond_from-spots w valid c.args.spots.now c.requires.placed i j c.requires.monomer within in
    let one : allows c.at-steps.result dir ≡ may_reach w.shape w.set (target_of w i dir) (slice_get w.positions j) =
    ap (λ b. allows b dir) (c.at-steps.ensures ∙ ap (λ (v : P3). slice_index c.args.allowed.now (key_of v)) vector) ∙ sym (may_reach-allowed w valid c.args.allowed.now c.requires.allowed i j bond dir) in
    allows-and c.loop-neighbour.steps c.at-steps.result dir ∙ ap (λ b. b && allows c.at-steps.result dir) (c.loop-neighbour.invariant dir) ∙ ap (λ b. keeps_bonds w.shape w.set w.positions (take n items) (target_of w i dir) && b) one
    ∙ sym (list_all_more (λ k. may_reach w.shape w.set (target_of w i dir) (slice_get w.positions k)) items n 0 c.loop-neighbour-test.true)

pub returns : goal.returns
returns c dir =
    let w = c.args.world.now in
    let i = c.args.monomer in
    let items = c.neighbours-neighbour-items.result.now in
    c.loop-neighbour.invariant dir
    ∙ ap (λ row. keeps_bonds w.shape w.set w.positions row (target_of w i dir)) (take_all c.loop-neighbour.neighbour-index items (omega (arith, c.loop-neighbour-test.false)) ∙ c.neighbours-neighbour-items.ensures.row)
    ∙ ap (λ b. not b && keeps_bonds w.shape w.set w.positions (neighbours_of w.bonds i) (target_of w i dir)) (sym c.if-fixed.false ∙ c.fixed.ensures)
