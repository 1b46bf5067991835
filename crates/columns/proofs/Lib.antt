pub mod Masks
pub mod Telling
pub mod Marking
pub mod Clashing
pub mod Digits
pub mod Comparing
mod Steps
