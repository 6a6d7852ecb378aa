pub mod Coded
pub mod Least
