-- Laws of the house order of programs.
pub mod Places
pub mod Looks
pub mod Ties
pub mod Comparison
pub mod Walks
pub mod Moves
pub mod Settling
pub mod Arranging
pub mod Writing
pub mod Ordering
pub mod Exact
pub mod Theorems
