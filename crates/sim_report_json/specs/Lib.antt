pub use Rattle.charge_model.specs.Problem
pub use Rattle.charge_model.specs.GroundList
pub use Rattle.ground_report.specs.Subject
pub use Rattle.ground_report.specs.Energies
pub mod Parts
pub mod GroundJson
