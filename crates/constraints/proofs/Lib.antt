-- Laws: the modules of this folder. Only the checker need believe them.
pub mod ConstraintLaws
pub mod LabelLaws
pub mod LimitingLaws
pub mod RaisingLaws
pub mod UsedLaws
