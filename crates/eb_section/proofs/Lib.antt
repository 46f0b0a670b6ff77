pub mod EventLists
pub mod Runs
mod KeptLists
pub mod Examples
pub mod WrittenSymbols
pub mod WrittenOpening
pub mod WrittenEvents
pub mod WrittenBlocks
pub mod WrittenLoops
pub mod WrittenSection
mod WrittenExamples
