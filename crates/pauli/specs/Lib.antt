pub mod Limits
pub mod Letters
pub mod Words
pub mod Laws
pub mod Text
pub mod Tables
