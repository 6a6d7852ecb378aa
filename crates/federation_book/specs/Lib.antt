pub mod KeptProjects
pub mod inner
