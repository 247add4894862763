-- Laws: the modules of this folder. Only the checker need believe them; FollowTheorems.antt has statements to read.
pub mod FollowLaws
pub mod FollowTheorems
pub mod Cases
