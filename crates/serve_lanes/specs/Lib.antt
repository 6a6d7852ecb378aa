pub mod LaneSeats
pub mod Lanes
pub mod Histories
