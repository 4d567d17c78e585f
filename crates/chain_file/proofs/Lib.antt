pub mod Fills
pub mod Marks
pub mod Openings
pub mod Parts
pub mod EdgeSums
