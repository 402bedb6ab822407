pub mod RelatorRows
pub mod WrittenElements
pub mod AlongRows
mod RelatorVectors
mod AlongVectors
