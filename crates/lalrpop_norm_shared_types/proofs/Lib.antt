pub mod SharedSeen
pub mod SharedTexts
pub mod MadeRows
pub mod RowCopies
mod WeightSums
