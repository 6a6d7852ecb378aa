pub mod BoxPlaces
pub mod Blocks
pub mod CoarseBoxes
