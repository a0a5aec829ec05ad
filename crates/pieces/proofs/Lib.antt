-- The proof of the pieces.
pub mod Tests
pub mod Says
pub mod Quick
pub mod Runs
pub mod Swaps
pub mod Edges
pub mod Orders
pub mod Steps
pub mod Ties
pub mod Computed
