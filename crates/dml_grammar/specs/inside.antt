-- What only the functions that read the grammar cite.
pub mod Tables
pub mod Steps
pub mod Fronts
pub mod Answering
