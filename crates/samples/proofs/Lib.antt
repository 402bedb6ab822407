pub mod DrawnWords
pub mod SampleNames
pub mod Parts
pub mod Samples
pub mod ShortWords
pub mod Exponents
pub mod SummaryTexts
pub mod SampleVectors
