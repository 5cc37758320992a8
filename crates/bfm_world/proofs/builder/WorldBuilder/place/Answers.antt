use Rattle.std.proofs.Common.{rules, ◌≡◌, ◌<◌, true, ◌++◌, ◌∷◌, [], length, arith}
use Rattle.bfm_world.specs.Bonds.{neighbours_of}
use Rattle.bfm_geom.specs.Walls.{is_within_walls}
use Rattle.bfm_world.specs.Configuration.{Configuration, configuration_of, is_clear, keeps_bonds}
use Rattle.bfm_world.proofs.ReachLemmas.{reach_of-append}
use Rattle.bfm_world.proofs.SiteLemmas.{AreFree-filled, IsFilled-placed}
use Rattle.bfm_world.proofs.ValidLemmas.{IsSound-placed}
use Rattle.bfm_world.proofs.builder.WorldBuilder.place.Goals as goal

pub place-requires-clause-free : goal.place-requires-clause-free
place-requires-clause-free c =
    let w : Configuration = configuration_of c.self.inside.parts in
    let walls : is_within_walls w.shape c.args.p ≡ true = search rules in
    let free : is_clear w.shape w.positions c.args.p ≡ true = search rules in
    (AreFree-filled w c.self.inside.lattice c.args.p c.self.invariant.3 c.self.invariant.0.box c.self.invariant.0.inside walls).1 free

pub invariant_of-self : goal.invariant_of-self
invariant_of-self c =
    let w : Configuration = configuration_of c.self.inside.parts in
    let items : c.push.new.self.items ≡ w.positions ++ c.args.p ∷ [] = search rules in
    let walls : is_within_walls w.shape c.args.p ≡ true = search rules in
    let free : is_clear w.shape w.positions c.args.p ≡ true = search rules in
    let kept : keeps_bonds w.shape w.set w.positions (neighbours_of w.bonds (length w.positions)) c.args.p ≡ true = search rules in
    let room : length w.positions < c.self.inside.count = search rules in
    rw items (
      IsSound-placed c.self.inside.count w c.args.p c.self.invariant.0 room walls free kept,
      omega (arith, reach_of-append w.positions (c.args.p ∷ []), c.requires.reach, c.self.invariant.1),
      omega (arith, c.self.invariant.2, c.push.ensures.capacity),
      IsFilled-placed w c.self.inside.lattice c.place.new.self c.args.p c.self.invariant.3 c.place.ensures,
    )

pub returns-clause-sound : goal.returns-clause-sound
returns-clause-sound c = (invariant_of-self c).0
