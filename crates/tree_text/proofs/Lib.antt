-- Laws: the modules of this folder. Only the checker need believe them.
pub mod TreeTextLaws
pub mod CodeLaws
pub mod TreeTextTheorems
pub mod Cases
