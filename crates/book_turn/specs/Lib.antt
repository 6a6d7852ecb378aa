pub mod NumberLists
pub mod Entries
pub mod PassViews
pub mod TurnSteps
pub mod Rule
pub mod Passes
pub mod TurnFaults
