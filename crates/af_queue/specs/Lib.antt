-- A queue as a list of messages, and what a receive takes from it.
pub mod Queued
pub mod TakenView
pub mod Streams
pub mod Chains
