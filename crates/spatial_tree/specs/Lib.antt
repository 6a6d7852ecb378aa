pub mod Relations
pub mod Climbing
pub mod Placing
pub mod Trees
pub mod inner
