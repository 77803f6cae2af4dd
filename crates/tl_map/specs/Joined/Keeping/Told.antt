-- Where those stand in a list that tell the same.
use Rattle.std.specs.Prelude.{◌≡◌, ℕ, ◌<◌, true, List, [], ◌∷◌, filter, slice_get, Option, Some, None}
use Rattle.std.specs.BTreeMap.{BTreeMap, get}
use Rattle.tl_record.specs.declared.record.Record.{Record}
use Rattle.tl_map.specs.declared.joined.place.Place.{Place}
use Rattle.tl_map.specs.declared.joined.told.Twins.{Twins}
use Rattle.tl_map.specs.declared.joined.told.Twins.TheVariants.{One, Two, More}
use Rattle.tl_map.specs.Joined.Keeping.Places.{is_at, place_cmp}

abbrev pub one_more : Option Twins → ℕ → Twins
one_more None at = One at
one_more (Some (One first)) at = Two first at
one_more (Some (Two first second)) at = More
one_more (Some More) at = More

abbrev pub two_of : Option Twins → Option (ℕ × ℕ)
two_of None = None
two_of (Some (One first)) = None
two_of (Some (Two first second)) = Some (first, second)
two_of (Some More) = None

pub record StandsOnce (rs : List Record) (p : Place) (first : ℕ) : Type 0 where
  pub told : Record
  pub here : slice_get rs first ≡ Some told
  pub passes : is_at p told ≡ true
  pub alone : filter (is_at p) rs ≡ told ∷ []

pub record StandsTwice (rs : List Record) (p : Place) (first second : ℕ) : Type 0 where
  pub told : Record
  pub again : Record
  pub before : first < second
  pub here : slice_get rs first ≡ Some told
  pub passes : is_at p told ≡ true
  pub there : slice_get rs second ≡ Some again
  pub passes_too : is_at p again ≡ true
  pub both : filter (is_at p) rs ≡ told ∷ again ∷ []

pub record StandsOften (rs : List Record) (p : Place) : Type 0 where
  pub told : Record
  pub again : Record
  pub third : Record
  pub more : List Record
  pub all : filter (is_at p) rs ≡ told ∷ again ∷ third ∷ more

-- these are the records that tell this
abbrev pub AreTwins : List Record → Place → Option Twins → Type 0
AreTwins rs p None = filter (is_at p) rs ≡ []
AreTwins rs p (Some (One first)) = StandsOnce rs p first
AreTwins rs p (Some (Two first second)) = StandsTwice rs p first second
AreTwins rs p (Some More) = StandsOften rs p

-- the map has, at each key, the records that tell this
abbrev pub AreAllTwins : List Record → BTreeMap Place Twins → Type 0
AreAllTwins rs twins = (p : Place) → AreTwins rs p (get place_cmp twins p)
