pub mod Fronts
pub mod Gapping
pub mod Numbers
pub mod RunLemmas
pub mod Tokens
pub mod OneCut
pub mod Stands
