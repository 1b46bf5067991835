pub mod Independence
pub mod Pivots
