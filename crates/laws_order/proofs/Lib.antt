pub mod Fan
pub mod Contained
pub mod Stacks
pub mod Agreeing
pub mod Steps
pub mod Rule
mod WorkedRounds
mod WorkedRule
