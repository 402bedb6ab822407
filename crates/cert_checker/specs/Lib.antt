pub mod StepRows
pub mod SumLines
pub mod KeptTails
pub mod Judging
pub mod AgreedOverlaps
pub mod MapWords
