pub mod Refusals
pub mod Syndromes
