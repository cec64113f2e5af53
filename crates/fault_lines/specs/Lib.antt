pub mod FaultLines
pub mod CertificateLines
