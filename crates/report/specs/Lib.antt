pub mod FilePlans
