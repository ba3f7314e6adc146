pub mod Calls
pub mod Requests
pub mod Refusals
pub mod Small
pub mod Output
pub mod Theorems
pub mod Starred
