pub use Rattle.charge_model.specs.Problem
pub use Rattle.charge_model.specs.Rules
pub use Rattle.charge_model.specs.GroundList
pub use Rattle.charge_model.specs.Tree
