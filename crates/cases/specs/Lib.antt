-- Where a case's files are.
pub mod Paths
