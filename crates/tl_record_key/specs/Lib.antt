pub mod KeyText
pub mod KeyWords
