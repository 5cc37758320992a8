use Rattle.std.proofs.Common.{◌≡◌, ◌∷◌, true, None, Some, ap, sym, ◌∙◌, subst}
use Rattle.bfm_commands.specs.Causes.{command_cause, is_header_command}
use Rattle.bfm_commands.specs.Meaning.{role_of}
use Rattle.bfm_commands.specs.Reading.{Sums, GivesFrame}
use Rattle.bfm_commands.specs.declared.owner.Owner.TheVariants.{Command}
use Rattle.bfm_commands.specs.declared.summary.Summary.{Summary}
use Rattle.bfm_commands.proofs.StepLemmas.{Sums-header, Sums-frames, frame_role}
use Rattle.bfm_commands.proofs.summary.Summary.take_command.Goals as goal
use Rattle.bfm_commands.proofs.summary.Summary.take_command.Goals.{in-Value+in_ok-take_value-in-Value, in-List+in_ok-take_list-in-List, in-Frame+in_ok-begin_frame-in-Frame, in-Change+in_ok-begin_changes-in-Change}

pub returns-clause-taken : goal.returns-clause-taken
returns-clause-taken c before line sums e =
    let known = c.args.known in
    let rest = c.args.rest.now in
    elim c.match-role_of.branch [
      | in-Value+in_ok-take_value-in-Value w ↦
          let t = w.in_ok-take_value-in-Value.ensures.taken before sums in
          let role : is_header_command (role_of known) ≡ true = ap is_header_command (sym c.role_of.ensures ∙ w.in-Value.is) in
          (t.0, subst (λ (s : Summary). Sums (record s { owner = Command known }) (line ∷ before)) (sym w.self-is) (Sums-header w.take_value.new.self before known rest line e role t.1))
      | in-List+in_ok-take_list-in-List w ↦
          let t = w.in_ok-take_list-in-List.ensures.taken before sums in
          let role : is_header_command (role_of known) ≡ true = ap is_header_command (sym c.role_of.ensures ∙ w.in-List.is) in
          (t.0, subst (λ (s : Summary). Sums (record s { owner = Command known }) (line ∷ before)) (sym w.self-is) (Sums-header w.take_list.new.self before known rest line e role t.1))
      | in-Frame+in_ok-begin_frame-in-Frame w ↦
          let t = w.in_ok-begin_frame-in-Frame.ensures.taken before sums in
          let is = frame_role known (sym c.role_of.ensures ∙ w.in-Frame.is) in (
            subst (λ k. command_cause before (Some k) rest ≡ None) is t.0,
            subst (λ (s : Summary). Sums (record s { owner = Command known }) (line ∷ before)) (sym w.self-is)
                (Sums-frames w.begin_frame.new.self before known rest line e (subst (λ k. GivesFrame k rest before w.begin_frame.new.self) is t.1)),
          )
      | in-Change+in_ok-begin_changes-in-Change w ↦
          let t = w.in_ok-begin_changes-in-Change.ensures.taken before known sums (sym c.role_of.ensures ∙ w.in-Change.is) in
          (t.0, subst (λ (s : Summary). Sums (record s { owner = Command known }) (line ∷ before)) (sym w.self-is) (Sums-frames c.args.self.now before known rest line e t.1))
    ]
