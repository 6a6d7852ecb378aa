pub mod Components
pub mod Viewpoints
