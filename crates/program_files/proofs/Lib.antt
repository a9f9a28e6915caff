pub mod Streaming
pub mod FollowEnds
