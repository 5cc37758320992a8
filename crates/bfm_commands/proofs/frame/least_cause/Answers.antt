use Rattle.std.proofs.Common.{◌≡◌, false, true, not, sym, ap, ◌∙◌, take, drop, subst, All, refl}
use Rattle.bfm_base.specs.declared.place.Shape.{Shape}
use Rattle.bfm_geom.specs.Walls.{is_within_walls}
use Rattle.bfm_commands.specs.Causes.{some_fails, is_apart, is_bonded_well}
use Rattle.bfm_commands.proofs.ApartLemmas.{All-inside, some_fails-apart}
use Rattle.bfm_commands.proofs.frame.least_cause.Goals as goal

pub are_apart-requires-clause-inside : goal.are_apart-requires-clause-inside
are_apart-requires-clause-inside c =
    let w = c.args.builder.now.world in
    let none : some_fails (λ before p. is_within_walls w.shape p) (take c.args.begun c.args.positions.now) (drop c.args.begun c.args.positions.now) ≡ false = sym c.some_outside.ensures ∙ c.if-some_outside.false in
    subst (λ (s : Shape). All (λ p. is_within_walls s p ≡ true) c.args.positions.now) (sym c.shape.ensures.shape) (All-inside w.shape c.args.positions.now c.args.begun c.requires.sound.inside none)

pub returns-then-not-branch : goal.returns-then-not-branch
returns-then-not-branch c =
    let w = c.args.builder.now.world in
    let ps = c.args.positions.now in
    let n = c.args.begun in
    let inside : some_fails (λ before p. is_within_walls w.shape p) (take n ps) (drop n ps) ≡ false = sym c.some_outside.ensures ∙ c.if-some_outside.false in
    let apart : some_fails (is_apart w) (take n ps) (drop n ps) ≡ true = some_fails-apart w c.shape.result ps n c.in_ok-are_apart.field-0 c.shape.ensures.shape c.requires.sound.apart c.in_ok-are_apart.ensures ∙ ap not c.if-not-branch.true in
    rw (inside, apart) refl

pub returns-then-some_bonded_badly : goal.returns-then-some_bonded_badly
returns-then-some_bonded_badly c =
    let w = c.args.builder.now.world in
    let ps = c.args.positions.now in
    let n = c.args.begun in
    let inside : some_fails (λ before p. is_within_walls w.shape p) (take n ps) (drop n ps) ≡ false = sym c.some_outside.ensures ∙ c.if-some_outside.false in
    let apart : some_fails (is_apart w) (take n ps) (drop n ps) ≡ false = some_fails-apart w c.shape.result ps n c.in_ok-are_apart.field-0 c.shape.ensures.shape c.requires.sound.apart c.in_ok-are_apart.ensures ∙ ap not c.if-not-branch.false in
    let badly : some_fails (is_bonded_well w) (take n ps) (drop n ps) ≡ true = sym c.some_bonded_badly.ensures ∙ c.if-some_bonded_badly.true in
    rw (inside, apart, badly) refl

pub returns : goal.returns
returns c =
    let w = c.args.builder.now.world in
    let ps = c.args.positions.now in
    let n = c.args.begun in
    let inside : some_fails (λ before p. is_within_walls w.shape p) (take n ps) (drop n ps) ≡ false = sym c.some_outside.ensures ∙ c.if-some_outside.false in
    let apart : some_fails (is_apart w) (take n ps) (drop n ps) ≡ false = some_fails-apart w c.shape.result ps n c.in_ok-are_apart.field-0 c.shape.ensures.shape c.requires.sound.apart c.in_ok-are_apart.ensures ∙ ap not c.if-not-branch.false in
    let badly : some_fails (is_bonded_well w) (take n ps) (drop n ps) ≡ false = sym c.some_bonded_badly.ensures ∙ c.if-some_bonded_badly.false in
    rw (inside, apart, badly) refl
