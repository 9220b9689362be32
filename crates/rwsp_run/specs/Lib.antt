pub mod Commands
pub mod Answers
pub mod Texts
pub mod Told
pub mod Status
pub mod Laws
