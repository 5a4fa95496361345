pub mod Crediting
pub mod Refunding
pub mod Moves
pub mod Sizes
pub mod Settling
pub mod Lines
pub mod Zeros
