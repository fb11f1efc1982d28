-- The abstract state: what a table and its bodies stand for.
use Rattle.std.specs.Prelude.{ℕ, List}
use Rattle.std.proofs.Math.Option.{Option}

pub data Label : Type 0 where
  read_only read_write : Label

pub data Kind : Type 0 where
  copy via_parent : Kind
  by_rule : (rule : ℕ) → Kind

-- what a domain holds of one cell (document 01: to hold a cell is to have kept its bytes): its label, its kind, and its value of 64 bytes
pub record Holding : Type 0 where
  pub label : Label
  pub kind : Kind
  pub value : List ℕ

-- a live domain: its handle, and what it holds of each cell, or nothing
pub record Domain : Type 0 where
  pub handle : ℕ
  pub holds : ℕ → Option Holding

-- the next handle, and the live domains, outermost first
pub record State : Type 0 where
  pub next : ℕ
  pub domains : List Domain
