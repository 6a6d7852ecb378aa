pub mod WorkerTurns
pub mod Joins
