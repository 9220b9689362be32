pub mod Files
pub mod OneJob
pub mod OneAnswer
pub mod OneText
pub mod OneTold
pub mod ToldRules
pub mod Refusals
pub mod Accepted
