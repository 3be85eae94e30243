pub mod BitLaws
pub mod MadeLaws
pub mod CountLaws
