pub mod Spelling
pub mod Closed
pub mod Printing
pub mod Printed
pub mod Reading
pub mod FirstFailures
