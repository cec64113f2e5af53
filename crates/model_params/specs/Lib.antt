pub mod Quantities
pub mod Params
