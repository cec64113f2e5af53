pub use Rattle.gate_report.specs.TruthText
pub use Rattle.gate_report.specs.DomainText
pub use Rattle.gate_report.specs.GateJson
pub mod GateSite
pub mod TruthAnswer
pub mod DomainAnswer
pub mod Told
pub mod Answers
