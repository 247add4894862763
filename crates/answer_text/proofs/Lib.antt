-- Laws: the modules of this folder. Only the checker need believe them; AnswerTextTheorems.antt has statements to read.
pub mod CodeLaws
pub mod AnswerTextTheorems
