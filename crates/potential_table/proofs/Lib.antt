pub mod PushLemmas
pub mod RangeLemmas
pub mod StageLemmas
pub mod HeadStages
pub mod EarlierLemmas
pub mod PairStages
pub mod NearStages
pub mod PrintedText
mod StandardFacts
