pub mod Masks
pub mod Columns
pub mod Lemmas
