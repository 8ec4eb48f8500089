pub mod Sources
pub mod Streams
pub mod Told
pub mod Ends
