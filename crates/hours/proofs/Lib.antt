pub mod Cells
mod Bounded
