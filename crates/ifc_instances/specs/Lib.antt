pub mod Entities
pub mod EntityLookup
pub mod inner
