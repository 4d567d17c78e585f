pub mod Reader
pub mod Format
pub mod Same
pub mod Theorems
