mod Errors
pub mod Boards
pub mod Naming
