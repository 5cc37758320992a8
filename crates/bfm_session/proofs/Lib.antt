mod CutLines
pub mod CutRun
pub mod GoingOnLemmas
mod InfoLemmas
pub mod LimitLemmas
mod LoadLemmas
pub mod PartsRun
pub mod PartsSweeps
pub mod ReadBackAdded
pub mod ReadBackBonded
pub mod ReadBackBonds
pub mod ReadBackContacts
pub mod ReadBackEach
pub mod ReadBackEntries
pub mod ReadBackFile
pub mod ReadBackFrame
pub mod ReadBackGroup
pub mod ReadBackHeader
pub mod ReadBackJob
pub mod ReadBackKept
pub mod ReadBackLater
pub mod ReadBackLimit
pub mod ReadBackLines
pub mod ReadBackListed
pub mod ReadBackLists
pub mod ReadBackMarks
pub mod ReadBackMeanings
pub mod ReadBackNumbers
pub mod ReadBackPlacing
pub mod ReadBackPlain
pub mod ReadBackRows
pub mod ReadBackRowsOf
pub mod ReadBackRun
pub mod ReadBackSettings
pub mod ReadBackSweeps
pub mod ReadBackTime
pub mod ReadBackVectors
pub mod ReadBackWalk
pub mod ReadBackWhole
pub mod ReadBackWorld
mod TableLemmas
mod TextLemmas
mod TrialLemmas
