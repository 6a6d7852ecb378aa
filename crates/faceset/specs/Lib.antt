pub mod PointCounts
pub mod Indexes
pub mod Learnt
pub mod Reaches
pub mod FacePolygons
pub mod FaceSets
pub mod inner
