pub mod Sheet
pub mod Wrote
