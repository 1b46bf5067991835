pub mod Numerals
pub mod Wording
