pub mod ConnectionViews
pub mod Doors
pub mod Stores
pub mod Hosts
pub mod Halls
