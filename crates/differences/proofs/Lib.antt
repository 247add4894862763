-- Laws: the modules of this folder. Only the checker need believe them; DifferencesTheorems.antt has statements to read.
pub mod ArrayLaws
pub mod IntegerLaws
pub mod PassLaws
pub mod ExactLaws
pub mod AnswerLaws
pub mod DifferencesTheorems
pub mod Cases
