pub mod UnweightedLaws
pub mod CallLaws
