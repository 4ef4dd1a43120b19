pub mod PlanList
pub mod Bytes
pub mod Trials
