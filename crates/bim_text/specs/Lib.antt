pub mod ScaledNumbers
pub mod NumberSpellings
pub mod Decimals
pub mod TextSpellings
pub mod Says
pub mod Short
pub mod inner
