-- Definitions: the modules of this folder, in the order in which they are read.
pub mod Numbers
pub mod Steps
pub mod Tables
