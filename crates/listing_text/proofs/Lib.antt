-- Laws that the proofs of this crate share.
pub mod Grow
pub mod Adds
pub mod Digits
pub mod Lines
pub mod Longest
pub mod Lent
pub mod Printed
