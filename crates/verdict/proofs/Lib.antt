-- Laws: the modules of this folder. Only the checker need believe them; VerdictTheorems.antt has statements to read.
pub mod TotalLaws
pub mod LeastLaws
pub mod AnswerLaws
pub mod CodeLaws
pub mod VerdictTheorems
pub mod Cases
