-- What the block step promises (Step, with the marks of Marking), and what its functions promise one another.
pub mod Step
pub mod Marking
pub mod Locator
pub mod LocatorAreas
pub mod Spectrum
pub mod Factors
pub mod Information
pub mod Candidate
