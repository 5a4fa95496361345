pub mod Sums
mod Counts
mod Moves
mod Wholes
pub mod Soundness
pub mod Totals
