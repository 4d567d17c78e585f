pub mod Lists
pub mod Obeyed
pub mod Promised
pub mod Refusals
