pub mod Fronts
pub mod Places
pub mod Padded
pub mod Keys
pub mod Pushes
