-- The laws of the crate. Only the checker need believe them.
pub mod HexLaws
pub mod FrameLaws
pub mod RunLaws
pub mod CodeLaws
pub mod ReadingLaws
pub mod WritingLaws
pub mod Cases
