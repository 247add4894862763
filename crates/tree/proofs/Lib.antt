-- Laws: the modules of this folder. Only the checker need believe them.
pub mod NodeLaws
pub mod TreeLaws
pub mod Cases
