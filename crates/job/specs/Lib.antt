pub mod Output
pub mod Promise
