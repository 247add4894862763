-- Laws: the modules of this folder. Only the checker need believe them; RecordsTheorems.antt has statements to read.
pub mod StoreLaws
pub mod RecordLaws
pub mod RecordsTheorems
