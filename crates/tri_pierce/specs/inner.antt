pub mod LoneCorners
pub mod TouchingBoxes
