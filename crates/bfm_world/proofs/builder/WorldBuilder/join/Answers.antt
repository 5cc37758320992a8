use Rattle.std.proofs.Common.{rules, arith, ◌≡◌, true, false}
use Rattle.std.specs.Prelude.{slice_get}
use Rattle.bfm_world.specs.Bonds.{are_bonded, is_full}
use Rattle.bfm_world.specs.Configuration.{Configuration, configuration_of}
use Rattle.bfm_world.specs.Draft.{may_join}
use Rattle.bfm_world.proofs.ValidLemmas.{IsSound-joined}
use Rattle.bfm_world.proofs.builder.WorldBuilder.join.Goals as goal

pub invariant_of-self : goal.invariant_of-self
invariant_of-self c =
    let w : Configuration = configuration_of c.self.inside.parts in
    let new : are_bonded w.bonds c.args.i c.args.j ≡ false = search rules in
    let may : may_join w (slice_get w.positions c.args.i) (slice_get w.positions c.args.j) ≡ true = search rules in
    let first : is_full w.bonds c.args.i ≡ false = search rules in
    let second : is_full w.bonds c.args.j ≡ false = search rules in
    rw c.join.ensures.exact (
      IsSound-joined c.self.inside.count w c.args.i c.args.j c.self.invariant.0 c.if-i-j.false (omega arith) (omega arith) new may first second,
      c.self.invariant.1,
      c.self.invariant.2,
      record { shape = c.self.invariant.3.shape; taken = c.self.invariant.3.taken },
    )

pub returns-clause-sound : goal.returns-clause-sound
returns-clause-sound c = (invariant_of-self c).0
