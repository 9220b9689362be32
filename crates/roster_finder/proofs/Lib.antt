pub mod AutomatonSteps
pub mod ClosedWalks
pub mod GivenCells
pub mod Leading
pub mod Places
pub mod QuotaSteps
pub mod UsedSteps
pub mod Words
