-- Laws of swaps; the theorems are in Theorems.
pub mod Tests
pub mod Lists
pub mod Positions
pub mod Exchanges
pub mod Elements
pub mod Views
pub mod Swaps
pub mod Marks
pub mod MarkSwaps
pub mod Stretches
pub mod Places
pub mod Reach
pub mod Runs
pub mod Houses
pub mod Insertions
pub mod Theorems
