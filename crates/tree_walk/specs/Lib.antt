pub mod Visiting
pub use Rattle.tree_leaves.specs.Subtree
