-- Definitions: the modules of this folder, in the order in which they are read.
pub mod Planner
pub mod ThisPlanner
pub mod EachCall
pub mod Demand1
pub mod Demand2
pub mod FixedOutcomes
pub mod ForcedOrder
pub mod Crews
pub mod Demand3
