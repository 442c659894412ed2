pub mod Inside
pub mod Lines
pub mod Printing
pub mod Making
-- what its contracts are stated in besides, which is handed on: a crate above that names fewer others is stamped on fewer paths
pub use Rattle.controller_file.specs as ControllerFile
