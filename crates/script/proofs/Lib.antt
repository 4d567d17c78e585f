pub mod Digits
pub mod Grammar
pub mod Lines
