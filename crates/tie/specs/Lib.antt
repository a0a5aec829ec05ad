-- What ties two records: the statement, and the definitions that code computes.
pub mod Tie
pub mod Exact
pub mod Claims
pub mod Bonds
