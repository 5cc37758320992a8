-- What an analysis of an accepted file comes to.
use Rattle.std.specs.Prelude.{ℕ, List, Result, Ok, Err}
use Rattle.bfm_base.specs.Account.{Account, Delivered, TookPrefix}
use Rattle.bfm_base.specs.declared.place.P3.{P3}
use Rattle.crossing_check.specs.Verdict.{IsVerdict}
use Rattle.crossing_check.specs.declared.judgement.SetVerdict.{SetVerdict}
use Rattle.bfm_commands.specs.declared.loaded.Loaded.{Loaded}
use Rattle.bfm_session.specs.CrossingText.{crossing_text}
use Rattle.bfm_session.specs.Info.{info_text}
use Rattle.bfm_session.specs.Tables.{clusters_text, contacts_text, moves_text, radii_text}
use Rattle.bfm_session.specs.declared.analysis.Ask.{Ask}
use Rattle.bfm_session.specs.declared.analysis.Ask.TheVariants.{Check, Info, Radii, Moves, Contacts, Clusters}
use Rattle.bfm_session.specs.declared.analysis.AskFault.{AskFault}
use Rattle.bfm_session.specs.declared.analysis.AskFault.TheVariants.{WriteFault, Memory}

-- the answer, where this is the verdict on the file's set
abbrev pub answer_text : Ask → Loaded → SetVerdict → List ℕ
answer_text Check loaded verdict = crossing_text verdict
answer_text Info loaded verdict = info_text loaded
answer_text Radii loaded verdict = radii_text loaded.world
answer_text Moves loaded verdict = moves_text loaded.first loaded.world
answer_text Contacts loaded verdict = contacts_text loaded.world
answer_text Clusters loaded verdict = clusters_text loaded.world

-- an answer that tells a verdict tells one on the set; for another, the verdict may be any
abbrev pub Judges : Ask → List (P3 × ℕ) → SetVerdict → Type 0
Judges Check set verdict = IsVerdict set verdict
Judges ask set verdict = Unit {0}

-- What an analysis does to a sink: it takes the answer and flushes it, or a prefix of it until a call fails. `untouched` says
-- that the sink is as it was.
abbrev pub Answers : {A : Type 0} → Result A AskFault → List ℕ → Account → Account → Type 0 → Type 0
Answers (Ok done) text old new untouched = Delivered old new text
Answers (Err WriteFault) text old new untouched = TookPrefix old new text
Answers (Err Memory) text old new untouched = untouched
