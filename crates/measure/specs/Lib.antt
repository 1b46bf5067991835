pub mod Scale
pub mod Measures
pub mod WorstThenSum
