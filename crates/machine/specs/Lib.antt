-- The machine, in reading order.
pub mod Refusals
pub mod Limits
pub mod Machine
pub mod Geometry
pub mod Range
pub mod Walk
pub mod Stretch
pub mod Looks
