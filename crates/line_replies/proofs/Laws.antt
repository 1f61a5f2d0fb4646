-- Lines with their replies.
pub mod Checked
