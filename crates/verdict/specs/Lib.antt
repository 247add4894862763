-- Definitions: the modules of this folder, in the order in which they are read.
pub mod Answers
pub mod Says
pub mod Verdict
