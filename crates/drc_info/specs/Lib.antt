pub mod InfoText
