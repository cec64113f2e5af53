pub use Rattle.charge_model.specs.Problem
pub use Rattle.charge_model.specs.Rules
pub use Rattle.charge_model.specs.GroundList
pub mod Subject
pub mod Energies
