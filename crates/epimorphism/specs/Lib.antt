pub mod RelatorRows
pub mod Rooms
