pub mod Order
pub mod Tests
pub mod Text
pub use Rattle.charge_model.specs.Charges
pub use Rattle.charge_model.specs.Rules
