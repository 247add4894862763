-- Laws: the modules of this folder. Only the checker need believe them.
pub mod BufferLaws
pub mod FirstTreeLaws
pub mod TurnLaws
pub mod PlaceLaws
