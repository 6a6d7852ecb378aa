pub mod Finishing
pub mod Orders
pub mod Turns
pub mod Entries
pub mod Fronts
pub mod Joins
pub mod WorkersMade
