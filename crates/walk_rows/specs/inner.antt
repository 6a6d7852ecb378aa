-- What mirrors the code: the loops of faces by places.
pub mod LoopRows
