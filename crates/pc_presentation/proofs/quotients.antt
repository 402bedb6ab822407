-- Products, quotients and values of elements over any collector.
pub mod Quotients
pub mod CollectorArithmetic
pub mod Division
pub mod TailedLaws
pub mod TailedArithmetic
pub mod ElementLaws
pub mod ElementConditions
pub mod PushesLeft
pub mod ValueSteps
pub mod RepeatedSquares
pub mod WordValues
pub mod BaseValues
