-- What the C entries answer.
pub mod Entries
