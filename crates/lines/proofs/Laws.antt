-- The laws of replies.
pub mod Hex
pub mod Replies
