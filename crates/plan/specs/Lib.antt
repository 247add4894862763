-- Definitions: the modules of this folder, in the order in which they are read.
pub mod Refusal
pub mod Answer
pub mod Faults
pub mod Plan
pub mod WellFormed
pub mod Letters
pub mod Settled
