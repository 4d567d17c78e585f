pub mod Calls
pub mod Exactly
pub mod Promise
pub mod Told
pub mod Values
