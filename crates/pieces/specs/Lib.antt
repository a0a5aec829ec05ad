-- The pieces to try.
pub mod Spelled
pub mod Rows
pub mod Edges
pub mod Extents
pub mod Orders
pub mod Houses
pub mod Steps
pub mod Racks
pub mod Ties
pub mod Pieces
