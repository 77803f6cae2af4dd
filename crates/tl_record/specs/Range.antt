-- Ranges of columns.
use Rattle.std.specs.Prelude.{ℕ, ◌+◌, ◌<◌, ◌≤◌}

-- columns count from 1, and both ends belong to the range
pub record Range : Type 0 where
  pub first : ℕ
  pub last : ℕ

-- the columns from first to last
abbrev pub columns : ℕ → ℕ → Range
columns first last = record { first = first; last = last }

-- a range that a layout may name: it isn't empty, and a number of that many digits fits 63 bits
pub record IsRange (range : Range) : Type 0 where
  pub from_one : 1 ≤ range.first
  pub ordered : range.first ≤ range.last
  pub narrow : range.last < range.first + 18
