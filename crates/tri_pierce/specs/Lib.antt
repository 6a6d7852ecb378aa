pub mod Piercing
pub mod PiercingSigns
pub mod inner
