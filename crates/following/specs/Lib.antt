-- Definitions: the modules of this folder, in the order in which they are read.
pub mod Calls
pub mod ThisRun
pub mod Following
pub mod OneCall
