-- The house order of programs, in reading order.
pub mod Order
pub mod Exact
pub mod Claims
pub mod Arranged
