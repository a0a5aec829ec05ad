-- The byte format, in reading order.
pub mod Kinds
pub mod Format
pub mod Names
