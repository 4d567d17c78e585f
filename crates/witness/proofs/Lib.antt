pub mod Filled
pub mod Found
pub mod Judged
pub mod Records
pub mod Signs
pub mod Tables
