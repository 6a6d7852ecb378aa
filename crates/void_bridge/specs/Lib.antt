pub mod HoleLoops
pub mod LoopEdges
pub mod Bridges
pub mod inner
