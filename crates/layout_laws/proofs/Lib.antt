pub mod Decisions
pub mod Sorting
pub mod RowOrder
pub mod Made
pub mod Searches
pub mod Unrefused
pub mod Existence
