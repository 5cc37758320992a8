use Rattle.std.proofs.Common.{◌≡◌, ◌<◌, ◌∙◌, ap, sym, subst, [], length, arith}
use Rattle.std.specs.List.{IsDistinct}
use Rattle.std.specs.Prelude.{nat_eq}
use Rattle.bfm_world.specs.Bonds.{neighbours_of}
use Rattle.bfm_world.proofs.BondLemmas.{has, Contains-has, has-Contains, IsDistinct-from_ascending}
use Rattle.bfm_world.proofs.world.World.neighbours.Goals as goal

pub returns-clause-listed : goal.returns-clause-listed
returns-clause-listed c j =
    let same : c.neighbours.result.now ≡ neighbours_of c.args.self.now.bonds c.args.i = c.neighbours.ensures.value ∙ ap (λ w. neighbours_of w.bonds c.args.i) c.self.view_is in
    (λ h. ap (has j) (sym same) ∙ Contains-has c.neighbours.result.now j h, λ h. has-Contains c.neighbours.result.now j (ap (has j) same ∙ h))

pub returns-clause-each_once : goal.returns-clause-each_once
returns-clause-each_once c =
    let inside : c.args.i < length c.self.inside.parts.bonds = omega (arith, c.requires, ap (λ w. length w.positions) c.self.view_is, c.self.invariant.0.bonds.rows) in
    subst (IsDistinct nat_eq) (sym c.neighbours.ensures.value) (IsDistinct-from_ascending (neighbours_of c.self.inside.parts.bonds c.args.i) (c.self.invariant.0.bonds.ascending c.args.i [] inside))
