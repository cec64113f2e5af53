pub use Rattle.charge_model.specs.GroundList
pub mod EntryLines
