-- Laws of what ties two records.
pub mod Sides
pub mod Sharing
pub mod Reading
pub mod Looks
pub mod Rectangles
pub mod Carriers
pub mod Exact
pub mod Claims
pub mod Refused
