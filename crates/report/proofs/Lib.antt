pub mod FilePlanLaws
