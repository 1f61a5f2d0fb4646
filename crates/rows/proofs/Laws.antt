-- The laws of the rows.
pub mod Rows
pub mod Found
pub mod Exact
pub mod Carried
pub mod Widths
pub mod SameRows
pub mod Checked
