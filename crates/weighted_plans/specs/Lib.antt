pub mod Unweighted
