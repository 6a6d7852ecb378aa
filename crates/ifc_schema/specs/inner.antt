pub mod InstanceFaults
pub mod SoundValues
