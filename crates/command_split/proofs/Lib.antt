-- what the cells call for, and how they are served
pub mod Calling
pub mod BoxFree
pub mod Serving
-- the reports, one after the other
pub mod Reports
-- what it does by its script, and what is written
pub mod Written
