mod CycleLooks
mod CutCounts
mod Cuts
mod Over
mod Watching
pub mod SameWords
pub mod Starts
pub mod TallyLemmas
pub mod OverrunLemmas
pub mod Standing
mod Marking
mod Mending
mod TwoTurns
mod Turning
mod Starting
mod CutSymbols
mod Awaiting
pub mod Fitting
