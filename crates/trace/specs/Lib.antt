-- The theory of swaps, in reading order.
pub mod Lists
pub mod Records
pub mod Swaps
pub mod Order
pub mod Machine
pub mod House
pub mod Claims
