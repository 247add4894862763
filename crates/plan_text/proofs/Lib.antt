-- The laws and theorems of the crate. Only the checker need believe them; PlanTextTheorems.antt has the statements to read.
pub mod LengthLaws
pub mod FilledLaws
pub mod EntryLaws
pub mod EntryReadLaws
pub mod ReadBackLaws
pub mod FirstFaultLaws
pub mod OneTextLaws
pub mod CutLaws
pub mod WriteLaws
pub mod WrittenLaws
pub mod RefusedLaws
pub mod Cases
pub mod PlanTextTheorems
