-- Laws: the modules of this folder. Only the checker need believe them.
pub mod CodeLaws
pub mod LegalLaws
pub mod PathLaws
pub mod PositionLaws
pub mod NextLaws
pub mod PerformedTheorems
pub mod SoFarLaws
pub mod Cases
