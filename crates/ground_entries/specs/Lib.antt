pub mod Seen
pub use Rattle.charge_model.specs.Charges
pub use Rattle.charge_model.specs.Problem
pub use Rattle.charge_model.specs.GroundList
pub use Rattle.charge_model.specs.Tree
