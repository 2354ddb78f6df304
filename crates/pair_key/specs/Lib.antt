pub mod Arguments
pub mod AnyField
pub mod Report
