pub mod Founds
pub mod Written
pub mod Laws
pub mod Guides
