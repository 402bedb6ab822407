mod CertificateTextVectors
pub mod CertificateLaws
pub mod CertificatesRead
pub mod Limits
pub mod texts
pub mod lines
