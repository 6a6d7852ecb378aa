pub mod Identifiers
pub mod Lists
pub mod Guids
pub mod LastMembers
