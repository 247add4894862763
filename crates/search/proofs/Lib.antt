-- Laws: the modules of this folder. Only the checker need believe them; SearchTheorems.antt has statements to read.
pub mod AnswerLaws
pub mod SearchTheorems
pub mod CodeLaws
pub mod Cases
