-- Bytes of files, and the units of files.
pub mod Bytes
pub mod Units
