-- Laws: the modules of this folder. Only the checker need believe them; RunTheorems.antt has statements to read.
pub mod HistoryLaws
pub mod ReportLaws
pub mod WalkLaws
pub mod ToldFromLaws
pub mod ToldLaws
pub mod ReportsLaws
pub mod ShownLaws
pub mod RunTheorems
pub mod Cases
