pub mod AnyTime
pub mod Done
pub mod NextVersions
pub mod Noting
pub mod AskedChanges
