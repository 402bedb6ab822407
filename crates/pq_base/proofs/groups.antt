-- Groups up to an equivalence, their levels, quotients and maps, and the solver of equations in them.
pub mod CentralCommutators
pub mod LevelCommutators
pub mod LevelGroups
pub mod Groups
pub mod GroupSolver
pub mod GroupIdentities
pub mod GroupLevels
pub mod GroupCommute
pub mod GroupMaps
pub mod GroupQuotients
