pub mod RoundedLengths
