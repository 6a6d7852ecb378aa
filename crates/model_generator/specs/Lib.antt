pub mod RandomNumbers
pub mod Cuboids
pub mod Phrases
pub mod InstanceLines
pub mod GeneratedFiles
pub mod RemainingBytes
