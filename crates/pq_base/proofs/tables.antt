-- Group tables: their values, series and quotients, homomorphisms between them, and orders.
pub mod TableLaws
pub mod TableGroup
pub mod TableSeries
pub mod TableQuotients
pub mod HomomorphismValues
pub mod UniqueOrders
pub mod OneToOne
pub mod NumberedGroups
pub mod Numberings
pub mod LevelQuotients
