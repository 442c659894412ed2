pub mod Plant
pub mod Loop
pub mod Printing
-- what the contracts are stated in besides, which is handed on: a crate above that names fewer others is stamped on fewer paths
pub use Rattle.command_design_files.specs as DesignFiles
pub use Rattle.command_files.specs as CommandFiles
pub use Rattle.controller_file.specs as ControllerFile
pub use Rattle.closed_loop.specs as ClosedLoop
