pub use Rattle.charge_model.specs.Problem
pub mod Made
pub mod Seen
