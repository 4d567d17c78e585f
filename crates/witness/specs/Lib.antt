pub mod Judged
pub mod Regions
pub mod Rows
pub mod Tests
pub mod Rights
