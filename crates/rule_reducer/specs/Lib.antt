pub mod Citing
pub mod Leaving
pub mod Kept
pub mod Without
