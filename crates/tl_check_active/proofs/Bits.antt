-- What is counted of one thing.
use Rattle.std.proofs.Common.{ℕ, Bool, cond}

-- 1 where it is so, else 0
abbrev pub bit : Bool → ℕ
bit b = cond b 1 0
