-- The lines of a certificate's text: which follows which, and that the places are told by them.
pub mod BadLines
pub mod CanonicalTexts
pub mod CertificateLeads
pub mod FormLaws
pub mod FrontsRead
pub mod FirstLines
pub mod PresentationLeads
pub mod PresentationLines
pub mod PresentationsRead
pub mod RunLeads
pub mod RunsRead
pub mod StepsRead
pub mod StuckPlaces
pub mod WrittenLines
