pub mod Refused
pub mod SomeBroken
pub mod SomeVerdict
pub mod LeastEnds
