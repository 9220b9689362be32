pub mod Fields
pub mod Kinds
pub mod Labels
pub mod Lexemes
pub mod Lines
pub mod Numbers
pub mod Places
pub mod Reads
