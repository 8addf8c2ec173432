-- What the contracts and proofs of the layers above share, and no reader has to believe: what a setting satisfies, settings by number, costs, recovery, information blocks,
-- residuals.
pub mod Sound
pub mod Cost
pub mod Recovery
pub mod InformationBlocks
pub mod Residual
pub mod SettingNumbers
