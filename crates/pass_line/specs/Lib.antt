pub mod Line
pub mod LineLaw
