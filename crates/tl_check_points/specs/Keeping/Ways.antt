-- Gaps as a tree, and the way from a gap to the outside.
use Rattle.std.specs.Prelude.{◌≡◌, ℕ, ◌<◌, Some, List, [], ◌∷◌, slice_get}
use Rattle.tl_check_inside.specs.declared.flanks.Flanks.{Flanks}
use Rattle.tl_check_points.specs.declared.labels.Gap.{Gap}
use Rattle.tl_check_points.specs.Keeping.Balances.{AreAmong, HaveOneBalance}

-- the gap of a number, where a segment with these sides stands east of it
pub record IsGap (n : ℕ) (gaps : List Gap) (g : ℕ) (flanks : Flanks) : Type 0 where
  pub gap : Gap
  pub is : slice_get gaps g ≡ Some gap
  pub flanks_are : gap.flanks ≡ flanks
  pub lower : gap.parent < g
  pub among : AreAmong n flanks

-- the flanks on the way from a gap to the outside
abbrev pub IsWay : ℕ → List Gap → ℕ → List Flanks → Type 0
IsWay n gaps g [] = g ≡ 0
IsWay n gaps g (flanks ∷ way) = (gap : IsGap n gaps g flanks) × IsWay n gaps gap.gap.parent way

-- the way from the gap tells of as much as these flanks
pub record TellGap (n : ℕ) (gaps : List Gap) (g : ℕ) (flanks : List Flanks) : Type 0 where
  pub way : List Flanks
  pub is : IsWay n gaps g way
  pub one : HaveOneBalance way flanks

-- each way stays as it is
abbrev pub AreKept : ℕ → (old new : List Gap) → Type 0
AreKept n old new = (g : ℕ) (way : List Flanks) → IsWay n old g way → IsWay n new g way
