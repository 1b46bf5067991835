pub mod Prices
pub mod Channels
pub mod Laws
