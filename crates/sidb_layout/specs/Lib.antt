pub mod Site
pub mod Lattice
pub mod Layout
pub mod Arranged
pub mod Refusal
pub mod Clash
pub mod Dropping
