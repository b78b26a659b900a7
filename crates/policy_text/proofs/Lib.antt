pub mod HexTurns
pub mod NetworkTexts
pub mod PathEntries
pub mod PathOrder
