pub mod Ranges
pub mod Lacking
pub mod Texts
pub mod Choices
pub mod Naming
pub mod Keeping
pub mod Alike
