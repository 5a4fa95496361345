pub mod Faults
pub mod Outcomes
pub mod Resources
pub mod Samples
pub mod States
pub mod DayEvents
