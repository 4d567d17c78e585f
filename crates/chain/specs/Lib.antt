pub mod Chains
pub mod Filled
pub mod Refusals
