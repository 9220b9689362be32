mod Sharpness
pub mod SharpSplits
mod Unweighed
mod ShortLists
mod OneLeaves
mod Counting
mod CountedFills
mod Plans
pub mod TopProofs
pub mod Founds
mod OtherWeeks
mod OneShift
mod ShortSearches
