pub mod Shares
pub mod Finds
pub use Rattle.charge_model.specs.Problem
pub use Rattle.charge_model.specs.Tree
pub use Rattle.tree_leaves.specs.Subtree
