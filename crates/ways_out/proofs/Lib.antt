pub mod Edited
pub mod Pieces
pub mod Rows
pub mod AllChanges
pub mod Valid
pub mod Easier
pub mod Staying
pub mod Helping
pub mod Reaching
pub mod Zips
pub mod Shares
pub mod Agreeing
pub mod AllOutcomes
mod StillChanges
mod OneSymbolEach
mod Single
