pub mod Tables
pub mod Normal
pub mod Spellings
pub mod SpellingLaws
pub mod Slots
