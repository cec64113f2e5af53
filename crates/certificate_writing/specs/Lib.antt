pub use Rattle.prune_certificate.specs.Printed
pub mod Writing
