pub mod Arith
pub mod Product
pub mod Bytes
pub mod Residues
pub mod Doubled
pub mod DoubledFields
