-- Chains that two counties tell, each with its own polygon on its side, and the records with each such chain once.
use Rattle.std.specs.Prelude.{ℕ, ◌==◌, ◌&&◌, not, nat_eq, Bool, true, false, List, [], ◌∷◌, filter, map, Option, Some, None, if◌then◌else◌}
use Rattle.std.specs.List.{list_any, list_all}
use Rattle.std.specs.Cmp.Lexicographic.{pointwise}
use Rattle.std.specs.Option.{option_eq}
use Rattle.std.specs.Ordering.{int_eq}
use Rattle.tl_geom.specs.declared.point.Point.{Point}
use Rattle.tl_record.specs.declared.record.Record.{Record}
use Rattle.tl_record.specs.declared.record.Record.TheVariants.{Chain, Shape, Sides, PolyPoint, Landmark, AreaLink}
use Rattle.tl_record_key.specs.declared.key.PolyKey.{PolyKey}

-- is this a type 1 record with TLID t
abbrev pub tells_chain : ℕ → Record → Bool
tells_chain t (Chain u from to) = t == u
tells_chain t other = false

-- is this a type 2 record with TLID t
abbrev pub tells_shape : ℕ → Record → Bool
tells_shape t (Shape u k pairs) = t == u
tells_shape t other = false

-- is this a type 2 record with TLID t and RTSQ n
abbrev pub tells_shape_at : ℕ → ℕ → Record → Bool
tells_shape_at t n (Shape u k pairs) = (t == u) && (n == k)
tells_shape_at t n other = false

-- is this a type I record with TLID t
abbrev pub tells_sides : ℕ → Record → Bool
tells_sides t (Sides u start end left right) = t == u
tells_sides t other = false

-- does it tell the same of the same chain: its ends, its pairs of this RTSQ, or its sides
abbrev pub tells_same : Record → Record → Bool
tells_same (Chain t from to) = tells_chain t
tells_same (Shape t n pairs) = tells_shape_at t n
tells_same (Sides t start end left right) = tells_sides t
tells_same other = λ r. false

abbrev pub same_point : Point → Point → Bool
same_point p q = int_eq p.x q.x && int_eq p.y q.y

-- these are its ends
abbrev pub has_ends : Point → Point → Record → Bool
has_ends from to (Chain t start end) = same_point from start && same_point to end
has_ends from to other = false

-- these are its pairs
abbrev pub has_pairs : List (Option Point) → Record → Bool
has_pairs pairs (Shape t n others) = pointwise (option_eq same_point) pairs others
has_pairs pairs other = false

-- zero-cell ids differ where both are given
abbrev pub ids_agree : Option ℕ → Option ℕ → Bool
ids_agree None other = true
ids_agree (Some id) None = true
ids_agree (Some id) (Some other) = id == other

-- of two with a left and a right side, one names the left alone and the other the right alone
abbrev pub sides_complete : Option PolyKey → Option PolyKey → Option PolyKey → Option PolyKey → Bool
sides_complete (Some left) None None (Some right) = true
sides_complete None (Some right) (Some left) None = true
sides_complete left right other_left other_right = false

-- these sides and zero-cell ids complete its own
abbrev pub completes_sides : Option ℕ → Option ℕ → Option PolyKey → Option PolyKey → Record → Bool
completes_sides start end left right (Sides t other_start other_end other_left other_right) =
    sides_complete left right other_left other_right && (ids_agree start other_start && ids_agree end other_end)
completes_sides start end left right other = false

-- do two records of one chain fit, as two counties tell it
abbrev pub fits : Record → Record → Bool
fits (Chain t from to) = has_ends from to
fits (Shape t n pairs) = has_pairs pairs
fits (Sides t start end left right) = completes_sides start end left right
fits other = λ r. false

-- are these two records that fit
abbrev pub are_two_that_fit : List Record → Bool
are_two_that_fit [] = false
are_two_that_fit (first ∷ []) = false
are_two_that_fit (first ∷ second ∷ []) = fits first second
are_two_that_fit (first ∷ second ∷ third ∷ rest) = false

-- is this a type 2 record with TLID t that doesn't stand twice, with equal pairs
abbrev pub is_shape_apart : List Record → ℕ → Record → Bool
is_shape_apart rs t r = tells_shape t r && not (are_two_that_fit (filter (tells_same r) rs))

-- Is TLID t told twice? Exactly two type 1 records have it, with equal ends; exactly two type I records, of which one names the left side
-- alone and the other the right side alone, whose zero-cell ids don't differ; and each of its type 2 records stands twice, with equal pairs.
unfoldable pub is_told_twice : List Record → ℕ → Bool
is_told_twice rs t =
    are_two_that_fit (filter (tells_chain t) rs) && (are_two_that_fit (filter (tells_sides t) rs) && not (list_any (is_shape_apart rs t) rs))

-- is this a record of a chain that is told twice
abbrev pub is_of_twice_told : List Record → Record → Bool
is_of_twice_told rs (Chain t from to) = is_told_twice rs t
is_of_twice_told rs (Shape t n pairs) = is_told_twice rs t
is_of_twice_told rs (Sides t start end left right) = is_told_twice rs t
is_of_twice_told rs other = false

-- what is given, by the first or else by the second
abbrev pub first_given : {T : Type 0} → Option T → Option T → Option T
first_given None other = other
first_given (Some given) other = Some given

-- type I with what another one names beside it
abbrev pub with_sides_of : ℕ → Option ℕ → Option ℕ → Option PolyKey → Option PolyKey → Record → Record
with_sides_of t start end left right (Sides u other_start other_end other_left other_right) =
    Sides t (first_given start other_start) (first_given end other_end) (first_given left other_left) (first_given right other_right)
with_sides_of t start end left right other = other

-- one record of two that fit: a type I record with both sides, or the second, which is equal to the first
abbrev pub one_of_two : Record → Record → Record
one_of_two (Sides t start end left right) second = with_sides_of t start end left right second
one_of_two first second = second

abbrev pub one_of : Record → List Record → Record
one_of r [] = r
one_of r (first ∷ []) = r
one_of r (first ∷ second ∷ []) = one_of_two first second
one_of r (first ∷ second ∷ third ∷ rest) = r

-- What stands in the place of a record, behind which these are left: of two that tell the same of a chain that is told twice the second
-- stays, with what both of them say, and the first goes. Each other record stays as it is.
unfoldable pub joined_one : List Record → Record → List Record → Option Record
joined_one rs r behind =
    if is_of_twice_told rs r then (if list_any (tells_same r) behind then None else Some (one_of r (filter (tells_same r) rs))) else Some r

-- a number before a record, where there is one
abbrev pub before_record : ℕ → Option Record → List (ℕ × Record) → List (ℕ × Record)
before_record number None entries = entries
before_record number (Some r) entries = (number, r) ∷ entries

-- these entries of all records, joined
abbrev pub joined_entries : List Record → List (ℕ × Record) → List (ℕ × Record)
joined_entries rs [] = []
joined_entries rs (entry ∷ entries) =
    before_record entry.0 (joined_one rs entry.1 (map (λ (e : ℕ × Record). e.1) entries)) (joined_entries rs entries)

-- the entries with each chain that is told twice once
unfoldable pub joined : List (ℕ × Record) → List (ℕ × Record)
joined entries = joined_entries (map (λ (e : ℕ × Record). e.1) entries) entries
