pub mod SketchLists
pub mod Sketches
pub mod Clean
pub mod Walked
pub mod Checked
pub mod inner
