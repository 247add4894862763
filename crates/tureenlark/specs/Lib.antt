-- Definitions: the modules of this folder, in the order in which they are read.
pub mod Library
pub mod Exported
pub mod ThisLibrary
pub mod LibraryDemands
