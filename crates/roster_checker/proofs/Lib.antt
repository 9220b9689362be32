pub mod ByCells
pub mod FirstBroken
