pub mod Polynomial
pub mod PairKey
pub mod Table
pub mod Share
pub mod Seat
pub mod Interpolation
pub mod Adding
pub mod Theorems
