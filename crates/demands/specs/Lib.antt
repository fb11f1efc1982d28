-- The three demands (Demands: open this first), what they speak of (Session), the starred edges (Starred), and small sessions
-- with their counts (Counted).
pub mod Counted
pub mod Demands
pub mod Session
pub mod Starred
