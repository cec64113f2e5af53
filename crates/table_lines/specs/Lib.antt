pub mod Lines
pub mod Kinds
pub mod Order
pub mod Ranges
pub mod Seen
pub mod FineLines
