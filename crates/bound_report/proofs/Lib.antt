mod Growing
mod KeyLaws
mod RowLines
mod Compact
