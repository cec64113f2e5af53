pub mod Command
pub mod Options
pub mod Limits
pub mod Depths
pub mod Gates
pub mod Settings
