-- What mirrors the code: the edges that it keeps, in runs with frames, and what it knows of bridges that aren't free.
pub mod Barriers
pub mod Tried
