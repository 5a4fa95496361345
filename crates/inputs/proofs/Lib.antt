pub mod Finds
pub mod Pushes
pub mod Quantities
pub mod Refusals
