pub mod Records
pub mod Lengths
