-- Laws: the modules of this folder. Only the checker need believe them.
pub mod SetToLaws
pub mod TableLaws
