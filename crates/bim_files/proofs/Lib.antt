pub mod Fronts
pub mod Lending
