pub use Rattle.command_words.specs.Settings
pub use Rattle.gate_report.specs.GenText
pub use Rattle.ground_state.specs.Answer
pub use Rattle.run_answer.specs.Status
pub use Rattle.run_answer.specs.Due
pub use Rattle.task_ground.specs.Told as GroundTold
pub mod Generator
pub mod GenAnswer
pub mod Told
