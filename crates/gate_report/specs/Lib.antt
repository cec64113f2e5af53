pub use Rattle.charge_model.specs.GroundList
pub use Rattle.entry_lines.specs.EntryLines
pub use Rattle.sim_report_json.specs.Parts
pub mod Answers
pub mod TruthText
pub mod DomainText
pub mod GenText
pub mod GateJson
