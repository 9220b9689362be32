pub mod RosterText
pub mod Said
pub mod Refusal
pub mod FirstFailures
pub mod Reading
pub mod RuleText
pub mod Laws
pub mod RefusalText
