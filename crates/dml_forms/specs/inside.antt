-- What only the reading functions above cite.
pub mod Front
pub mod LookAhead
