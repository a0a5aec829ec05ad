-- Laws of the panel's services.
pub mod Services
pub mod Filled
pub mod Demand
pub mod Exact
