pub mod Keys
pub mod Trades
