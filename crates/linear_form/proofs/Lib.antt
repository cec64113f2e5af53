pub mod Products
pub mod Weighed
pub mod Potentials
pub mod Hops
pub mod Values
pub mod Picked
pub mod OverTables
pub mod Signs
pub mod StandardFacts
mod Refusals
