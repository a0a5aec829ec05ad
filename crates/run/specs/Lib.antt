-- The run, in reading order: the relation, the reasons, the definitions that compute, the claims.
pub mod Relation
pub mod Reason
pub mod Step
pub mod Loops
pub mod Run
pub mod Claims
pub mod Yarns
