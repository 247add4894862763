-- Laws and theorems. Only the checker need believe them; the theorems of the demands, Corollaries.antt, Impostors.antt and
-- FurtherImpostors.antt have statements to read.
pub mod Demand1Laws
pub mod Demand1Theorem
pub mod Demand2Theorem
pub mod FixedOutcomesTheorem
pub mod ForcedOrderTheorem
pub mod ListLaws
pub mod MadeLaws
pub mod SaidLaws
pub mod CallLaws
pub mod EveryListLaws
pub mod Demand3Theorem
pub mod AgreeLaws
pub mod Corollaries
pub mod Cases
pub mod OtherPlanners
pub mod Impostors
pub mod FurtherImpostors
