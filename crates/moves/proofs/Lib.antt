-- Laws: the modules of this folder. Only the checker need believe them.
pub mod StepLaws
pub mod OrderLaws
pub mod Cases
