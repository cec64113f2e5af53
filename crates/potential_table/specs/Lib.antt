pub use Rattle.charge_model.specs.Problem
pub use Rattle.table_reading.specs.Reading
pub mod TableRows
