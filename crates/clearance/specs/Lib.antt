pub mod Near
pub mod Decided
pub mod inner
