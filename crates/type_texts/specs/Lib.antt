-- What a reader must believe of the texts of types, in the order of the paper's "What a type is".
pub mod TypeTexts
pub mod Written
