-- Laws of the C entries.
pub mod Words
pub mod Crossing
