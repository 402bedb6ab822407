pub mod SpanParts
pub mod ClosureLaws
pub mod GrownWork
pub mod NamedWork
pub mod OfferedRows
pub mod WorkLoops
pub mod ClosureMade
