pub mod Books
pub mod Replays
