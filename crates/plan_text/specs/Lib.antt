-- Definitions: the modules of this folder, in the order in which they are read.
pub mod PlanText
pub mod FirstFault
pub mod PlanRead
pub mod ReadPlan
pub mod WritePlan
