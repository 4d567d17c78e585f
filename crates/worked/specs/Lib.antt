pub mod Samples
pub mod SampleLaws
pub mod Examples
