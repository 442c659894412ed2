-- texts that are read as what they are, the answer and what is printed
pub mod Reading
pub mod Answering
pub mod Inside
pub mod PrintedText
pub mod Row
