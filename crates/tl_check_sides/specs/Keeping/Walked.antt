-- What is kept of the walks taken so far.
use Rattle.std.specs.Prelude.{◌≡◌, ℕ, ◌<◌, ◌≤◌, ◌^◌, List, length}
use Rattle.tl_map_county.specs.TheMap.{MapChain}
use Rattle.tl_check_sides.specs.declared.walks.Walks.{Walks}
use Rattle.tl_check_sides.specs.Lists.{EachList}
use Rattle.tl_check_sides.specs.Sides.{dart_count, IsRing}
use Rattle.tl_check_sides.specs.declared.walks.NoRing.{NoRing}
use Rattle.tl_check_sides.specs.declared.walks.NoRing.TheVariants.{WrongStep, NotClosed}
use Rattle.tl_check_sides.specs.Walks.{HasWrongStep, IsOpen}
use Rattle.tl_check_sides.specs.Keeping.Marked.{marked_count, MarkLists}
use Rattle.tl_check_sides.specs.Keeping.Rounded.{KeepNext}

-- there is room for each dart, the next darts are kept, and there is room for the numbers of the walks
pub record AreReady (chains : List MapChain) (s : Walks) : Type 0 where
  pub next : KeepNext chains s.next
  pub marks : length s.marks.items ≡ dart_count chains
  pub few : dart_count chains < 2 ^ 32
  pub taken : s.taken ≤ marked_count s.marks.items

-- these walks were taken, and none was wrong
pub record HaveWalked (chains : List MapChain) (walks : List (List ℕ)) (s : Walks) : Type 0 where
  pub taken : s.taken ≡ length walks
  pub marks : MarkLists (dart_count chains) walks s.marks.items
  pub rings : EachList (IsRing chains) walks

-- why a walk is no ring
abbrev pub IsNoRing : List MapChain → List ℕ → NoRing → Type 0
IsNoRing chains walk WrongStep = HasWrongStep chains walk
IsNoRing chains walk NotClosed = IsOpen chains walk
