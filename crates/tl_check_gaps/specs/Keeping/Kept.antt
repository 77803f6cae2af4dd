-- Gaps in order, and one of each two segments.
use Rattle.std.specs.Prelude.{◌≡◌, ℕ, ◌-◌, ◌<◌, Bool, pos, ◌+ℤ◌, List, slice_index_or, length, All}
use Rattle.std.specs.List.Sorted.{IsSortedBy}
use Rattle.std.specs.Ordering.{nat_cmp, int_cmp, ordering_then, is_lt}
use Rattle.tl_check_planar.specs.ByHeight.Heights.{height, widest}
use Rattle.tl_check_faces.specs.declared.odd.OddGap.{OddGap}
use Rattle.tl_check_faces.specs.AllFaults.{order_of}
use Rattle.tl_check_gaps.specs.Gaps.{AreInOrder, IsListed}

-- one gap is sorted before another: by what stands west of them, then by what stands east, and then by their heights
abbrev pub comes_first : OddGap → OddGap → Bool
comes_first x y =
    is_lt (ordering_then (ordering_then (nat_cmp (order_of x.west) (order_of y.west)) (nat_cmp (order_of x.east) (order_of y.east)))
    (int_cmp (height widest x.at +ℤ pos 2147483647) (height widest y.at +ℤ pos 2147483647)))

-- they are sorted so
abbrev pub AreSorted : List OddGap → Type 0
AreSorted gaps = IsSortedBy comes_first gaps

-- the gap at a place is between the same two as the one before it
pub record IsGapRepeated (gaps : List OddGap) (k : ℕ) : Type 0 where
  pub some : 0 < k
  pub west : (d : OddGap) → (slice_index_or gaps (k - 1) d).west ≡ (slice_index_or gaps k d).west
  pub east : (d : OddGap) → (slice_index_or gaps (k - 1) d).east ≡ (slice_index_or gaps k d).east

-- a gap stands among the first n
pub record StandsBefore (n : ℕ) (gaps : List OddGap) (gap : OddGap) : Type 0 where
  pub place : ℕ
  pub before : place < n
  pub within : place < length gaps
  pub is : (d : OddGap) → slice_index_or gaps place d ≡ gap

-- of the first n gaps those that are kept: they stand there, each of the others is between the same two as one of them that is no higher,
-- and they rise
pub record AreKeptOf (n : ℕ) (gaps kept : List OddGap) : Type 0 where
  pub stand : All (StandsBefore n gaps) kept
  pub told : (k : ℕ) (d : OddGap) → k < n → k < length gaps →
      IsListed widest (height widest (slice_index_or gaps k d).at) (slice_index_or gaps k d).west (slice_index_or gaps k d).east kept
  pub rising : AreInOrder kept

-- of all
abbrev pub AreKept : (gaps kept : List OddGap) → Type 0
AreKept gaps kept = AreKeptOf (length gaps) gaps kept
