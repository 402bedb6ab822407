pub mod RowSources
pub mod HeldRuns
mod CountLaws
pub mod LineParts
pub mod PairForms
pub mod PairRows
pub mod NextTailLines
pub mod HeldForms
pub mod HeldSums
pub mod HeldCombinations
pub mod BuiltRuns
pub mod PassedRuns
pub mod HeldCertificates
pub mod HeldLines
pub mod FirstParts
pub mod ValidParts
pub mod JudgedOverlaps
pub mod PlainValues
pub mod PlainGroups
pub mod PlainMaps
pub mod PlainEndomorphisms
mod CertificateVectors
mod ValidVectors
