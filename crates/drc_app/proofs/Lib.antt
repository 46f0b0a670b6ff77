pub mod Tables
pub mod Numbers
pub mod Settings
pub mod Lines
pub mod BadWords
pub mod LineKinds
pub mod Generated
pub mod MapEnds
