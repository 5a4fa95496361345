pub mod Steps
pub mod Outcomes
