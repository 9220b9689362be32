pub mod FirstBroken
pub mod Places
pub mod BreaksText
