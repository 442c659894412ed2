pub mod FastLine
