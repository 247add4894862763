-- Laws: the modules of this folder. Only the checker need believe them; CasesTheorem.antt proves the statement in specs/Cases.antt.
pub mod SearchCases
pub mod PrintedLaws
pub mod CasesTheorem
