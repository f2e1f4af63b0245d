pub mod Opening
pub mod Bodies
