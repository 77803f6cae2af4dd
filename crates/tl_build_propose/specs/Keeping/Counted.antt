-- Walks that are counted and not kept.
use Rattle.std.specs.Prelude.{◌≡◌, ℕ, suc, ◌≤◌, ◌<◌, Bool, List, length, slice_index}
use Rattle.tl_map_county.specs.TheMap.{MapChain}
use Rattle.tl_map_county.specs.Darts.{dart_left}
use Rattle.tl_tree_index.specs.Keeping.Marked.{mark_at}
use Rattle.tl_check_sides.specs.Lists.{HoldOnce, EachList}
use Rattle.tl_check_sides.specs.Sides.{SidesAgree, dart_count}
use Rattle.tl_check_sides.specs.Walks.{AreWalks}
use Rattle.tl_check_sides.specs.Keeping.Marked.{MarkLists}
use Rattle.tl_build_propose.specs.Keeping.Following.{IsOneToOne, AreFollowed, GoesBy}
use Rattle.tl_build_propose.specs.Keeping.Siding.{HasOneLeft}

-- so many walks are taken, each with one side on its left, and each dart before the first that is left is taken
pub record AreCounted (chains : List MapChain) (following : List ℕ) (taken : List Bool) (first count : ℕ) : Type 0 where
  pub walks : List (List ℕ)
  pub many : count ≡ length walks
  pub few : count ≤ first
  pub marks : MarkLists (length following) walks taken
  pub before : (d : ℕ) → d < first → mark_at taken d ≡ 1
  pub some : EachList (λ w. 0 < length w) walks
  pub followed : IsOneToOne following → AreFollowed following taken
  pub goes : IsOneToOne following → EachList (GoesBy following) walks
  pub one : EachList (HasOneLeft chains) walks

-- there are so many lists that go by what follows each dart, in which each dart stands once, and each has one side on its left
pub record AreTraced (chains : List MapChain) (following : List ℕ) (count : ℕ) : Type 0 where
  pub walks : List (List ℕ)
  pub many : count ≡ length walks
  pub hold : HoldOnce (length following) walks
  pub some : EachList (λ w. 0 < length w) walks
  pub goes : IsOneToOne following → EachList (GoesBy following) walks
  pub one : EachList (HasOneLeft chains) walks

-- two darts of the walk, one behind the other, have two sides on their left
pub record ChangesSide (chains : List MapChain) (walk : List ℕ) : Type 0 where
  pub place : ℕ
  pub within : suc place < length walk
  pub two : ¬ (dart_left chains (slice_index walk (suc place)) ≡ dart_left chains (slice_index walk place))

-- a list of darts that goes by what follows each has two sides on its left
pub record HasTwoLefts (chains : List MapChain) (following : List ℕ) : Type 0 where
  pub walk : List ℕ
  pub darts : (k : ℕ) → k < length walk → slice_index walk k < dart_count chains
  pub goes : IsOneToOne following → GoesBy following walk
  pub changes : ChangesSide chains walk

-- the chains have so many walks, and their sides agree
pub record HaveWalksInAgreement (chains : List MapChain) (count : ℕ) : Type 0 where
  pub walks : List (List ℕ)
  pub are : AreWalks chains walks
  pub many : count ≡ length walks
  pub agree : SidesAgree chains
