pub mod CertificateText
pub mod CertificatePlaces
pub mod CertificateFaults
pub mod NumberFronts
pub mod WrittenNumbers
pub mod ReadSoFar
