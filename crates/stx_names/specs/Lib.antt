pub mod Integers
pub mod Words
pub mod Sentences
pub mod Duplicates
pub mod Numbers
