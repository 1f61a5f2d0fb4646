-- The laws under the demands, how long results are, and the tables of checked values.
pub mod Exchanges
pub mod Causes
pub mod Results
pub mod CheckedTexts
pub mod CheckedTables
pub mod Checked
pub mod CheckedDurations
pub mod CheckedLeaps
pub mod CheckedYears
