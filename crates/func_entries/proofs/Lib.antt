pub mod Accepted
pub mod Formed
pub mod Heads
pub mod Reading
pub mod Rising
