pub mod ProductLimits
pub mod GridVectors
pub mod Within
pub mod Foot
pub mod Edges
pub mod Pierce
