-- Laws: the modules of this folder. Only the checker need believe them; JudgeTheorems.antt has the statements to read.
pub mod JudgeLaws
pub mod WellFormedLaws
pub mod JudgeTheorems
pub mod Cases
