-- What the calls mean, on abstract states; the history that demand 3 is read against, and sessions.
pub mod State
pub mod Answer
pub mod Calls
pub mod Holdings
pub mod Restore
pub mod History
pub mod Session
