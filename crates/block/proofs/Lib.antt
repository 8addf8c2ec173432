-- The mathematics of the block step over any field, the same on numbers below q, and the loops. Each file uses only those above it.
pub mod LocatorStep
pub mod ErrorSpectrum
pub mod Filled
pub mod Factors
pub mod Thinning
pub mod Candidate
pub mod LocatorBelow
pub mod LocatorPair
pub mod Spectra
pub mod CandidateBelow
pub mod InformationRead
pub mod Marking
pub mod Step
