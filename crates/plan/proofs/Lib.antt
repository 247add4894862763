-- The laws of the crate. Only the checker need believe them; PlanTheorems.antt has statements to read.
pub mod SliceLaws
pub mod MadeLaws
pub mod LetterLaws
pub mod RefusalLaws
pub mod AnswerLaws
pub mod PlanLaws
pub mod OutcomeLaws
pub mod Cases
pub mod PlanTheorems
