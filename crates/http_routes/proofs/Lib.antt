pub mod Texts
pub mod Routers
pub mod Parts
pub mod Rows
pub mod Numerals
