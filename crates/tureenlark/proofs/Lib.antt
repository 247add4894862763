-- Laws: the modules of this folder. Only the checker need believe them; LibraryTheorems.antt has statements to read.
pub mod LibraryLaws
pub mod DecodeLaws
pub mod RangeLaws
pub mod FollowLaws
pub mod LibraryTheorems
pub mod PlanCallLaws
pub mod RunCallLaws
pub mod FixedCallLaws
pub mod TableCallLaws
pub mod LibraryTheorem
