pub mod Errors
pub mod FaultWords
pub mod FaultTrees
