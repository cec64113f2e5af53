pub mod Hunting
pub use Rattle.charge_model.specs.Tree
