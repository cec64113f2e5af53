pub mod Amounts
pub mod Closed
pub mod Flags
pub mod Known
pub mod Parts
pub use Rattle.charge_model.specs.Problem
pub use Rattle.charge_model.specs.Prefixes
pub use Rattle.charge_model.specs.Tree
