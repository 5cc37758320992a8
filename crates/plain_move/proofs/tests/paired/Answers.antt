use Rattle.std.proofs.Common.{rules, ◌≡◌, ◌∙◌, ◌++◌, ◌∷◌, [], Bool, true, false, Result, Ok, Err, length, pos, refl, sym}
use Rattle.std.proofs.Math.Bool.{beq}
use Rattle.std.specs.Result.{result_eq}
use Rattle.bfm_base.specs.declared.cause.Cause.{Cause}
use Rattle.bfm_base.specs.declared.place.P3.{P3}
use Rattle.bfm_world.specs.Bonds.{with_bond}
use Rattle.bfm_world.specs.Draft.{Draft, with_bonds, with_positions}
use Rattle.plain_move.proofs.tests.paired.Goals as goal

-- an answer that equals Ok true is that
told_ok : (eq : Cause → Cause → Bool) (r : Result Bool Cause) → result_eq beq eq r (Ok true) ≡ true → r ≡ Ok true
told_ok eq (Ok true) h = refl
told_ok eq (Ok false) h = cc
told_ok eq (Err cause) h = cc

pub finish-world-requires : goal.finish-world-requires
finish-world-requires g c =
    let p : P3 = record { x = pos 0; y = pos 0; z = pos 0 } in
    let q : P3 = record { x = pos 2; y = pos 0; z = pos 0 } in
    let b : Draft = c.in_ok-builder.builder in
    let yes : c.eq.result ≡ true = search rules in
    let told : c.join.result ≡ Ok true = told_ok _ c.join.result (sym c.eq.ensures ∙ yes) in
    let joined : c.join.new.self ≡ with_bonds b (with_bond b.world.bonds 0 1) = c.join.ensures.exact told in
    let first : c.place.new.self ≡ with_positions c.join.new.self (c.join.new.self.world.positions ++ p ∷ []) = search rules in
    let second : c.place-2.new.self ≡ with_positions c.place.new.self (c.place.new.self.world.positions ++ q ∷ []) = search rules in
    let empty : b.world.positions ≡ [] = search rules in
    let count : b.count ≡ 2 = search rules in
    let full : length c.place-2.new.self.world.positions ≡ 2 = simp (second, first, joined, empty) in
    full ∙ cc
