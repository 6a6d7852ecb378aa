pub mod Rows
pub mod Chains
pub mod Links
pub mod Histories
pub mod Joining
pub mod LanesMade
pub mod Closing
