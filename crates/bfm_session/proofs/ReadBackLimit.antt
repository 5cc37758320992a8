-- What is written of a valid world is read back within any limit that it keeps.
use Rattle.std.proofs.Common.{◌≡◌, ℕ, ◌^◌, ◌≤◌, length, ap, ◌∙◌}
use Rattle.bfm_world.specs.Configuration.{Configuration, IsValid, reach_of}
use Rattle.bfm_session.specs.Loading.{accepted, whole_verdict, limited_verdict}
use Rattle.bfm_session.proofs.LimitLemmas.{limited-within}
use Rattle.bfm_session.proofs.ReadBackSettings.{HasThree}
use Rattle.bfm_session.specs.Written.{world_text, loaded_back}
use Rattle.bfm_session.proofs.ReadBackWhole.{first_wrong_of-written, verdict_of-written}

pub limited_verdict-written : (w : Configuration) (mcs limit : ℕ) → IsValid w → HasThree w.shape → reach_of w.positions ≤ 2 ^ 44 → mcs ≤ 2 ^ 40 → length (world_text w mcs) ≤ limit
    → limited_verdict limit (world_text w mcs) ≡ accepted (loaded_back w mcs)
limited_verdict-written w mcs limit ok has near early short =
    limited-within (world_text w mcs) limit (record { within = short; right = first_wrong_of-written w ok has near mcs early })
    ∙ ap whole_verdict (verdict_of-written w ok has near mcs early)
