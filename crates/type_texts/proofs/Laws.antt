-- The laws of the texts of types.
pub mod TypeTexts
pub mod Walks
pub mod CheckedTypes
pub mod Joining
pub mod Kept
pub mod Tests
pub mod ListOrder
pub mod Written
pub mod Complete
pub mod WellFormed
pub mod Words
pub mod Arranged
pub mod Converse
pub mod SameSettings
pub mod NoRow
