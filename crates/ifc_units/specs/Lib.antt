pub mod LengthRefusals
pub mod Grid
pub mod Metres
pub mod Conversions
pub mod Units
pub mod Lengths
pub mod inner
