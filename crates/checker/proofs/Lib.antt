-- Laws: the modules of this folder. Only the checker need believe them; CheckerTheorems.antt has statements to read.
pub mod SubtreeLaws
pub mod CodeLaws
pub mod CompleteLaws
pub mod FoundLaws
pub mod SoFarLaws
pub mod FaultLaws
pub mod CheckerTheorems
pub mod Cases
