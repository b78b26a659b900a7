mod TreeLemmas
mod NeedLemmas
mod ShapeLemmas
pub mod SoundFineLemmas
pub mod EndLemmas
pub mod RangeLemmas
pub mod ValidLemmas
pub mod SegmentLemmas
pub mod PlaceLemmas
pub mod GrowLemmas
pub mod FunctionLemmas
pub mod AllocateLemmas
pub mod LoopLemmas
pub mod WholeLemmas
pub mod RunLemmas
pub mod SceneLemmas
pub mod MatchLemmas
pub mod DecideLemmas
pub mod SuitLemmas
pub mod FineLemmas
pub mod CountLemmas
pub mod ExportLemmas
