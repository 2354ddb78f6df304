pub mod Digits
pub mod Faults
pub mod KioskLine
pub mod Steps
