pub use Rattle.certificate_reading.specs.Texts
pub use Rattle.certificate_writing.specs.Writing
pub use Rattle.run_answer.specs.Status
pub use Rattle.run_answer.specs.Due
pub use Rattle.task_ground.specs.GroundAnswer
pub use Rattle.task_ground.specs.Told as GroundTold
pub mod CertifyAnswer
pub mod CheckAnswer
pub mod Told
pub mod DueCertificate
pub mod CertificateSeen
pub mod WrittenSo
pub mod Delivery
