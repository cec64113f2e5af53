pub mod Elements
pub mod Numbers
pub mod Sites
pub mod Kept
