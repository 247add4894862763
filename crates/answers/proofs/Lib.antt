-- Laws and theorems: the modules of this folder. Only the checker need believe them.
pub mod NumberLaws
pub mod PlacesTheorems
pub mod StepLaws
pub mod TableLaws
