-- The panel's services, in reading order.
pub mod Panel
pub mod Claims
pub mod Exact
pub mod Rows
