pub use Rattle.ground_state.specs.Answer
pub use Rattle.ground_state.specs.Window
pub use Rattle.certificate_check.specs.Checking
pub use Rattle.certificate_walk.specs.Walking
pub mod Answers
