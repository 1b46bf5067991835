pub mod Pivots
pub mod Independence
