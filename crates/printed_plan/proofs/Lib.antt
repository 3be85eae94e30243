pub mod LineLaws
pub mod TextLaws
pub mod NowLaws
pub mod PrintLaws
pub mod InputLaws
pub mod LaunchLaws
