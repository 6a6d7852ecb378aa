pub mod ReplayWords
pub mod WholeSessions
pub mod Commands
pub mod ServeWords
pub mod ServeCommand
pub mod inner
