pub mod Frames
pub mod Directions
pub mod Chains
pub mod Placed
pub mod Operators
pub mod inner
