-- Definitions: the modules of this folder, in the order in which they are read.
pub mod TreeText
pub mod TreeRead
pub mod ReadTree
pub mod WriteTree
