pub mod Reading
pub mod GrownTrees
pub mod BodyFloats
pub mod Floats
pub mod Plain
pub mod Projects
pub mod BadTurns
pub mod OneListRequest
