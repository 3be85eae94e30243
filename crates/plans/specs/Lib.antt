pub mod Planning
pub mod Demands
pub mod Rules
pub mod Launch
pub mod PlanParts
pub mod LaterPlans
pub mod KindJobs
