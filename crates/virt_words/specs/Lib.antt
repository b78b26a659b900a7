pub mod Lines
pub mod Apps
pub mod Numbers
pub mod Words
pub mod FaultTexts
