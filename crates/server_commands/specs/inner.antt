pub mod BucketWork
pub mod OneActor
pub mod Turns
