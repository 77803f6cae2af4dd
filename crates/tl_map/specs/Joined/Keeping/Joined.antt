-- How records are joined, one after the other.
use Rattle.std.specs.Prelude.{◌≡◌, ℕ, List, filter, Option, Some, None, if◌then◌else◌}
use Rattle.std.specs.BTreeSet.{BTreeSet, contains}
use Rattle.std.specs.List.{list_any}
use Rattle.std.specs.Ordering.{nat_cmp}
use Rattle.tl_record.specs.declared.record.Record.{Record}
use Rattle.tl_record.specs.declared.record.Record.TheVariants.{Shape}
use Rattle.tl_record.specs.Joining.{tells_shape_at, are_two_that_fit, is_shape_apart}

-- the TLID of a type 2 record that doesn't stand twice, with equal pairs
abbrev pub apart_of : List Record → Record → Option ℕ
apart_of rs (Shape t n pairs) = if are_two_that_fit (filter (tells_shape_at t n) rs) then None else Some t
apart_of rs other = None

-- the set has the TLIDs of those of these records that don't stand twice among all
abbrev pub AreApart : List Record → List Record → BTreeSet ℕ → Type 0
AreApart rs some apart = (t : ℕ) → contains nat_cmp apart t ≡ list_any (is_shape_apart rs t) some
