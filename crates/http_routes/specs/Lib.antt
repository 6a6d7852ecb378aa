pub mod Paths
pub mod Targets
pub mod PathNumbers
pub mod PathParameters
pub mod Resources
pub mod Queries
pub mod ListQueries
