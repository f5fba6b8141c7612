-- What the functions promise that read at a place of a text.
pub mod Scans
pub mod Fixed
