pub mod OutlineLimits
pub mod PolygonViews
pub mod Corners
pub mod Removal
pub mod Areas
pub mod Registers
pub mod inner
