pub mod Facts
pub mod HeadLines
pub mod Judged
pub mod RequestHeads
