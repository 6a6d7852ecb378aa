pub mod Apart
pub mod BoxContainment
pub mod EdgePairs
pub mod Planes
pub mod Projections
pub mod TriangleCorners
pub mod TriangleRuns
