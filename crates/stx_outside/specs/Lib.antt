pub mod MemoryEnds
pub mod Streams
