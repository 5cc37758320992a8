-- Texts written in pieces.
use Rattle.std.proofs.Common.{◌≡◌, ℕ, ◌+◌, List, [], ◌++◌, ap, sym, ◌∙◌, append_assoc, append-nil, zero, suc, ◌-◌, ◌*◌, ◌≤◌, zero-add, suc-add, arith}
use Rattle.bfm_world.specs.Configuration.{Configuration}
use Rattle.sweep_run.specs.Sweep.{Progress}
use Rattle.bfm_writer.specs.Text.{group_text}
use Rattle.bfm_session.specs.Running.{at_next_frame, groups_text}
use Rattle.bfm_session.specs.declared.order.RunOrder.{RunOrder}

-- the groups of a run begin with those of a shorter one
groups_text-add : (order : RunOrder) (mcs a d : ℕ) (start : Progress) → (more : List ℕ) × (groups_text order mcs (d + a) start ≡ groups_text order mcs a start ++ more)
groups_text-add order mcs a zero start = ([], ap (λ n. groups_text order mcs n start) (zero-add a) ∙ sym (append-nil (groups_text order mcs a start)))
groups_text-add order mcs a (suc d) start =
    let h = groups_text-add order mcs a d start in
    let now = at_next_frame order mcs (d + a) start in
    let last = group_text now.world (mcs + suc (d + a) * order.every) now.log in
    (h.0 ++ last, ap (λ n. groups_text order mcs n start) (suc-add d a) ∙ (ap (λ l. l ++ last) h.1 ∙ append_assoc (groups_text order mcs a start) h.0 last))

pub groups_text-front : (order : RunOrder) (mcs a frames : ℕ) (start : Progress) → a ≤ frames → (more : List ℕ) × (groups_text order mcs frames start ≡ groups_text order mcs a start ++ more)
groups_text-front order mcs a frames start l =
    let h = groups_text-add order mcs a (frames - a) start in
    let whole : frames ≡ frames - a + a = omega arith in
    (h.0, ap (λ n. groups_text order mcs n start) whole ∙ h.1)

-- one more group
pub groups_text-more : (order : RunOrder) (mcs frame : ℕ) (start now : Progress) (w : Configuration) (pairs : List (ℕ × ℕ)) → now ≡ at_next_frame order mcs frame start → w ≡ now.world → pairs ≡ now.log
    → groups_text order mcs frame start ++ group_text w (mcs + frame * order.every + order.every) pairs ≡ groups_text order mcs (suc frame) start
groups_text-more order mcs frame start now w pairs e world log =
    let time : mcs + frame * order.every + order.every ≡ mcs + suc frame * order.every = omega arith in
    let same = world ∙ ap (λ (r : Progress). r.world) e in
    let added = log ∙ ap (λ (r : Progress). r.log) e in
    λ i. groups_text order mcs frame start ++ group_text (same i) (time i) (added i)
