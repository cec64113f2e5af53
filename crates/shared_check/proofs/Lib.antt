pub mod Parting
pub mod Shares
pub mod Gathering
