-- The rewriter, in reading order.
pub mod Extents
pub mod Programs
pub mod Rewrite
pub mod Exact
pub mod Calls
pub mod Claims
pub mod Laid
