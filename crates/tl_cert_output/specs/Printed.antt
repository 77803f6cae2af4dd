-- What a printer is.
use Rattle.std.specs.Prelude.{ℕ, Bool, List}

-- the bytes that it holds, which the sink hasn't taken yet, and whether a write failed
pub record Printed : Type 0 where
  pub held : List ℕ
  pub failed : Bool
