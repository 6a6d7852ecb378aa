pub mod Extents
pub mod Versions
pub mod Ascii
pub mod Zips
pub mod Unique
pub mod Rising
pub mod Tested
