pub mod Faults
pub mod Parts
pub mod Columns
pub mod First
pub mod Known
