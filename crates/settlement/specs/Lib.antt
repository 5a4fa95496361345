pub mod Sums
pub mod Days
pub mod Shortfalls
pub mod Settlement
pub mod Laws
pub mod Figures
