pub mod Callers
pub mod CallerSessions
pub mod inner
