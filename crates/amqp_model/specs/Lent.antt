-- An end that lends what came instead of keeping it, and when it is alike to one that keeps it.
pub mod Streaming
pub mod Alike
