pub mod Refusals
pub mod Calls
pub mod Running
pub mod Outcomes
pub mod Results
pub mod Starting
