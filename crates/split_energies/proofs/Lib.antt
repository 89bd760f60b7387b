pub mod Exports
pub mod ExactShares
pub mod FeedPhase
pub mod OnePhase
pub mod Weighed
pub mod Parts
pub mod Order
pub mod ScanSteps
