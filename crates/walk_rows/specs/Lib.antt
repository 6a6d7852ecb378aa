pub mod Pools
pub mod Rows
pub mod SetRows
pub mod inner
