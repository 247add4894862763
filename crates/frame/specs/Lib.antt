-- Definitions: the modules of this folder, in the order in which they are read.
pub mod Characters
pub mod Hex
pub mod Frame
pub mod Written
pub mod ReadFrame
pub mod Texts
