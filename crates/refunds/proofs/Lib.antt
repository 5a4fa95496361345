pub mod Places
pub mod NetShares
pub mod Largest
pub mod Events
pub mod ShortMinutes
