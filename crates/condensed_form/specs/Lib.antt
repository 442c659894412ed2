pub mod Form
pub mod Limit
pub mod Lists
pub mod Costs
pub mod Fault
pub mod Numbers
