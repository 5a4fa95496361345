pub mod Hours
pub mod Assignments
pub mod Entries
