pub mod Reasons
pub mod CaseReasons
pub mod Counted
pub mod OneShift
pub mod FoundFrom
pub mod Guided
