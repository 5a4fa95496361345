pub mod Requests
pub mod Answers
pub mod Texts
pub mod Tallies
