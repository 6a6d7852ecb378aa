pub mod ErrorFloats
