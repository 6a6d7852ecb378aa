pub mod BucketProgress
pub mod BucketPlaces
pub mod Carried
pub mod inner
