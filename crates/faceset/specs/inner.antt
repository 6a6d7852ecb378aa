pub mod Cuts
pub mod FaceNumbers
