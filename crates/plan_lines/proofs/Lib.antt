-- lines that are printed one after the other
pub mod LineByLine
-- what a command does that prints lines
pub mod Acting
-- what is printed of a controller and its states
pub mod PlanLines
-- what is printed where two files hold what is printed of
pub mod Holding
