pub mod ShortRows
pub mod Stood
pub mod inner
