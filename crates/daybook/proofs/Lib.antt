pub mod Books
pub mod Kept
pub mod Settles
pub mod Runs
pub mod Laws
mod Responses
