pub mod ExchangeFiles
pub mod Instances
pub mod Machine
pub mod Schema
pub mod Uploads
pub mod inner
