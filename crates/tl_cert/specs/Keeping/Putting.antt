-- Bytes that are put into an array before what stands there already.
use Rattle.std.specs.Prelude.{◌≡◌, ℕ, ◌+◌, ◌≤◌, List, ◌++◌, drop, length}

-- before this place there is room for so many bytes
pub record HasRoom (most place : ℕ) (text : List ℕ) : Type 0 where
  pub room : most ≤ place
  pub within : place ≤ length text

-- bytes, at most so many, were put before what stood at `place`: they start at `start`
pub record Puts (most place start : ℕ) (old new bytes : List ℕ) : Type 0 where
  pub before : start ≤ place
  pub few : place ≤ start + most
  pub written : drop start new ≡ bytes ++ drop place old
  pub size : length new ≡ length old
