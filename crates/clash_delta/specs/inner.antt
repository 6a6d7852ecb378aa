pub mod ElementNumbers
pub mod Same
