-- Rows of tails, and presentations with rows: words of rows, and words without their tails.
pub mod RowLaws
pub mod TailLaws
pub mod TailRowLaws
pub mod FlatLaws
pub mod SingleRows
pub mod RowMaps
pub mod FlatWords
pub mod RowsCentral
pub mod Projections
pub mod Lifting
pub mod RowedClass
