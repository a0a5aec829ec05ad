-- What a listing holds, and how a text grows in a loan.
pub mod Text
pub mod Grown
pub mod Adds
pub mod Listed
pub mod Printed
