-- Laws: the modules of this folder. Only the checker need believe them.
pub mod ByteLaws
pub mod NextLaws
