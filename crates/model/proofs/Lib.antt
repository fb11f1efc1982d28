-- The laws of the model: demand 3 over abstract states, and that what the calls leave to be seen is what sessions allow.
pub mod Asking
pub mod Told
pub mod Named
pub mod Ranges
pub mod Ranged
pub mod Effects
pub mod Byte
pub mod Agree
pub mod Bytes
pub mod Invariant
pub mod Sound
pub mod Idle
pub mod Lawful
pub mod Demand
pub mod Views
pub mod InnerFirst
pub mod Samples
