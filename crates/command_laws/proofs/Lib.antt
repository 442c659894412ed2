-- grid states and boxes, and what is called for
pub mod States
-- what is solved and served of what was written
pub mod Solving
pub mod Serving
