pub mod Risen
pub mod Ranges
