pub mod Printing
pub mod NowText
pub mod ProgramInput
pub mod EarlierText
