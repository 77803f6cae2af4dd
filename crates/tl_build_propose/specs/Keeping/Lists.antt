-- Lists of darts.
use Rattle.std.specs.Prelude.{◌≡◌, ℕ, Bool, List, map, Vec}
use Rattle.std.specs.Global.{Global}
use Rattle.tl_tree_index.specs.Keeping.Marked.{mark_at}
use Rattle.tl_check_sides.specs.Keeping.Marked.{marked_count}
use Rattle.tl_check_sides.specs.declared.headed.HeadedDart.{HeadedDart}

-- the lists of numbers that vectors hold
abbrev pub lists_in : List (Vec ℕ Global) → List (List ℕ)
lists_in = map (λ v. v.items)

-- the darts of starts
abbrev pub darts_in : List HeadedDart → List ℕ
darts_in = map (λ s. s.dart)

-- nothing is marked
pub record AreUnmarked (marks : List Bool) : Type 0 where
  pub each : (d : ℕ) → mark_at marks d ≡ 0
  pub count : marked_count marks ≡ 0
