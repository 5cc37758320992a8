-- The causes for which a line is refused.
use Rattle.std.specs.Prelude.{ℕ, List, codes}
use Rattle.bfm_base.specs.declared.cause.Cause.{Cause}
use Rattle.bfm_base.specs.declared.cause.Cause.TheVariants.{BadLine, OutOfLimit, BadVector, Repeated, NotSymmetric, UnknownId, FrameLong, FrameShort, Missing, Misplaced, McsOrder, Outside, Overlap, BadMonomer, BadBond, TooManyBonds, BondUnknown, NoFrame, Unbuilt}

-- the number of a cause, from 1
abbrev pub cause_number : Cause → ℕ
cause_number BadLine = 1
cause_number OutOfLimit = 2
cause_number BadVector = 3
cause_number Repeated = 4
cause_number NotSymmetric = 5
cause_number UnknownId = 6
cause_number FrameLong = 7
cause_number FrameShort = 8
cause_number Missing = 9
cause_number Misplaced = 10
cause_number McsOrder = 11
cause_number Outside = 12
cause_number Overlap = 13
cause_number BadMonomer = 14
cause_number BadBond = 15
cause_number TooManyBonds = 16
cause_number BondUnknown = 17
cause_number NoFrame = 18
cause_number Unbuilt = 19

-- the name of a cause in a report
abbrev pub cause_name : Cause → List ℕ
cause_name BadLine = codes "BadLine"
cause_name OutOfLimit = codes "OutOfLimit"
cause_name BadVector = codes "BadVector"
cause_name Repeated = codes "Repeated"
cause_name NotSymmetric = codes "NotSymmetric"
cause_name UnknownId = codes "UnknownId"
cause_name FrameLong = codes "FrameLong"
cause_name FrameShort = codes "FrameShort"
cause_name Missing = codes "Missing"
cause_name Misplaced = codes "Misplaced"
cause_name McsOrder = codes "McsOrder"
cause_name Outside = codes "Outside"
cause_name Overlap = codes "Overlap"
cause_name BadMonomer = codes "BadMonomer"
cause_name BadBond = codes "BadBond"
cause_name TooManyBonds = codes "TooManyBonds"
cause_name BondUnknown = codes "BondUnknown"
cause_name NoFrame = codes "NoFrame"
cause_name Unbuilt = codes "Unbuilt"
