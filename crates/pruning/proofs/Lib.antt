-- Laws: the modules of this folder. Only the checker need believe them.
pub mod SettingLaws
pub mod WinLaws
pub mod MoveLaws
pub mod OwnLaws
