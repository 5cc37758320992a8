use Rattle.std.proofs.Common.{◌∷◌, List, Ok, sym, ap, ◌∙◌}
use Rattle.bfm_commands.specs.Reading.{value_fault}
use Rattle.bfm_commands.specs.History.{stands}
use Rattle.bfm_commands.specs.declared.header.Header.{Header}
use Rattle.bfm_commands.specs.declared.settings.Given.{Given}
use Rattle.bfm_commands.proofs.ValueLemmas.{natural_in-value}
use Rattle.bfm_commands.proofs.header.Header.take_value.Goals as goal

pub returns-clause-taken : goal.returns-clause-taken
returns-clause-taken c =
    let header : Header = c.args.self.now in
    let value = natural_in-value c.args.rest.now c.args.least c.args.greatest c.in_ok-value.value (sym c.value_of.ensures.value ∙ c.in_ok-value.was) in (
      ap (λ r. value_fault r (stands c.args.command header.settings)) (sym c.value_of.ensures.value ∙ c.in_ok-value.was)
          ∙ ap (λ b. value_fault (Ok c.in_ok-value.value) b) (sym c.stands.ensures ∙ c.if-stands.false),
      ap (λ (settings : List Given). record header { settings = settings })
          (c.in_ok-give.ensures ∙ ap (λ v. record { command = c.args.command; value = v } ∷ header.settings) (sym value)),
    )
