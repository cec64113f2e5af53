pub mod Fronts
pub mod OwnTexts
pub mod Sizes
pub mod SmallMarks
pub mod SmallTokens
