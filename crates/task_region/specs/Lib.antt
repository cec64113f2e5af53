pub mod RegionAnswer
pub mod Told
