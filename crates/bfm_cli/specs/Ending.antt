-- How a job ends: its status and its report.
use Rattle.std.specs.Prelude.{ℕ, List, [], ◌∷◌, ◌++◌, codes, decimal, Result, Ok, Err}
use Rattle.std.specs.List.{concat}
use Rattle.bfm_base.specs.Cause.{cause_number, cause_name}
use Rattle.bfm_session.specs.CrossingText.{crossing_text}
use Rattle.bfm_session.specs.NumberLines.{number_line}
use Rattle.bfm_cli.specs.declared.ending.Ending.{Ending}
use Rattle.bfm_cli.specs.declared.ending.Ending.TheVariants as ends
use Rattle.bfm_cli.specs.declared.ending.Fault.{Fault}
use Rattle.bfm_cli.specs.declared.ending.Fault.TheVariants as faults
use Rattle.bfm_cli.specs.declared.status.Status.{Status}
use Rattle.bfm_cli.specs.declared.status.Status.TheVariants as statuses

abbrev pub status_of : Ending → Status
status_of (ends.Ran done) = statuses.Done
status_of ends.Answered = statuses.Done
status_of ends.Built = statuses.Done
status_of (ends.BadWords word) = statuses.BadWords
status_of (ends.BadFile refused) = statuses.BadFile
status_of (ends.NoRoom need have) = statuses.NoRoom
status_of (ends.TooLong limit) = statuses.TooLong
status_of (ends.TooFar mcs reach) = statuses.TooFar

abbrev pub fault_status : Fault → Status
fault_status faults.Read = statuses.ReadFault
fault_status faults.Write = statuses.WriteFault
fault_status faults.Memory = statuses.Memory

-- the status of a job that came to its ending or was kept from it by a fault
abbrev pub ended_status : Result Ending Fault → Status
ended_status (Ok ending) = status_of ending
ended_status (Err fault) = fault_status fault

-- the exit status of the process
abbrev pub code_of : Status → ℕ
code_of statuses.Done = 0
code_of statuses.BadWords = 2
code_of statuses.BadFile = 3
code_of statuses.NoRoom = 4
code_of statuses.ReadFault = 5
code_of statuses.WriteFault = 6
code_of statuses.Memory = 7
code_of statuses.TooLong = 8
code_of statuses.ReportFault = 9
code_of statuses.TooFar = 10

-- the text of the report; that of an answered question and that of a start are empty
abbrev pub report_of : Ending → List ℕ
report_of (ends.Ran done) =
    concat (
    number_line (codes "kept") (done.kept ∷ [])
    ∷ number_line (codes "frames") (done.frames ∷ [])
    ∷ number_line (codes "mcs") (done.mcs ∷ [])
    ∷ number_line (codes "skipped") (done.skipped ∷ [])
    ∷ number_line (codes "accepted") (done.tally.accepted ∷ [])
    ∷ number_line (codes "links") (done.tally.links ∷ [])
    ∷ []
    )
    ++ crossing_text done.verdict
report_of ends.Answered = []
report_of ends.Built = []
report_of (ends.BadWords word) = number_line (codes "words") (word ∷ [])
report_of (ends.BadFile refused) =
    concat (codes "line " ∷ decimal refused.line ∷ codes " cause " ∷ decimal (cause_number refused.cause) ∷ codes " " ∷ cause_name refused.cause ∷ codes "\n" ∷ [])
report_of (ends.NoRoom need have) = number_line (codes "room") (need ∷ have ∷ [])
report_of (ends.TooLong limit) = number_line (codes "long") (limit ∷ [])
report_of (ends.TooFar mcs reach) = concat (codes "far " ∷ decimal mcs ∷ codes " " ∷ decimal reach ∷ codes "\n" ∷ [])

-- Want of memory makes no report.
abbrev pub fault_report : Fault → List ℕ
fault_report faults.Read = codes "read\n"
fault_report faults.Write = codes "write\n"
fault_report faults.Memory = []

abbrev pub ended_report : Result Ending Fault → List ℕ
ended_report (Ok ending) = report_of ending
ended_report (Err fault) = fault_report fault
