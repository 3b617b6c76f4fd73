pub mod JoinedText
pub mod Joining
