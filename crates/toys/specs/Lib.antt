pub mod Flags
pub mod Levels
pub mod Reach
pub mod FlagLaws
pub mod LevelLaws
pub mod Reaching
