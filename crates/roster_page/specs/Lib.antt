pub mod Escaped
pub mod Clock
pub mod Hours
pub mod LeastRest
pub mod PageText
pub mod ReadPage
pub mod Laws
