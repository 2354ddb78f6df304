pub mod Keys
pub mod Downwards
