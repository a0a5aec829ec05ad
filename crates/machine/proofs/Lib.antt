-- Laws of the machine.
pub mod Signed
pub mod Lists
pub mod Laws
pub mod Ranges
pub mod Walks
pub mod Stretches
pub mod Conversion
pub mod Scans
pub mod Refused
