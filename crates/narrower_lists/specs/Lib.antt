pub use Rattle.narrower_laws.specs.Narrower
pub use Rattle.ground_state.specs.Answer
pub mod Agreement
pub mod Listed
pub mod Possible
pub mod Seen
