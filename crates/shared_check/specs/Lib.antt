pub mod Parts
pub mod SettingSeen
pub mod TesterSeen
pub use Rattle.certificate_walk.specs.Walking
