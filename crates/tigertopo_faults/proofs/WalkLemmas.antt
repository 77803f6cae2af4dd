-- A walk along a chain's points finds its segments.
use Rattle.std.proofs.Common.{◌≡◌, ℕ, zero, suc, ◌+◌, ◌-◌, ◌<◌, ◌≤◌, Bool, true, false, List, [], ◌∷◌, ◌++◌, Option, None, Some, length, drop, get_or, refl, sym, ap, ◌∙◌, arith, append_assoc, append-nil}
use Rattle.std.specs.Prelude.{not}
use Rattle.std.proofs.lemmas.List.{drop_more}
use Rattle.tl_geom.specs.declared.point.Point.{Point}
use Rattle.tl_record.specs.Joining.{same_point}
use Rattle.tl_record.specs.declared.record.Record.{Record}
use Rattle.tigertopo_faults.specs.declared.records.line.RecordLine.{RecordLine}
use Rattle.tigertopo_faults.specs.declared.records.walk.HeldPoint.{HeldPoint}
use Rattle.tigertopo_faults.specs.declared.records.walk.HeldSegment.{HeldSegment}
use Rattle.tigertopo_faults.specs.declared.records.walk.Walk.{Walk}
use Rattle.tigertopo_faults.specs.Records.Ends.{told, pair_held, pairs_held, pairs_in, held_in, pairs_from, segments_from}
use Rattle.tigertopo_faults.specs.Records.Walking.{going}

-- the same is found in the end along these points, and others behind them
abbrev pub Goes : Walk → List HeldPoint → Walk → List HeldPoint → Type 0
Goes new points old others = (rest : List HeldPoint) → going new (points ++ rest) ≡ going old (others ++ rest)

-- some points more
goes_on : (points more : List HeldPoint) (all : List HeldPoint) (first old new : Walk) → Goes old (points ++ more) first all
    → ((rest : List HeldPoint) → going new rest ≡ going old (points ++ rest)) → Goes new more first all
goes_on points more all first old new before passes rest =
    passes (more ++ rest) ∙ ap (going old) (sym (append_assoc points more rest)) ∙ before rest

past : {A : Type 0} (xs : List A) (i : ℕ) → length xs ≤ i → drop i xs ≡ []
past [] zero out = refl
past [] (suc i) out = refl
past (x ∷ xs) zero out = absurd (omega arith)
past (x ∷ xs) (suc i) out = past xs i (omega arith)

-- one RTSQ more
pub goes_number : (telling : ℕ) (lines : List RecordLine) (count i : ℕ) (shape : Option (ℕ × Record)) (all : List HeldPoint) (first old new : Walk) → i < count → shape ≡ told telling (Some (i + 1)) lines
    → Goes old (pairs_from telling lines (count - i) (i + 1)) first all → ((rest : List HeldPoint) → going new rest ≡ going old (held_in pairs_in shape ++ rest))
    → Goes new (pairs_from telling lines (count - (i + 1)) (i + 1 + 1)) first all
goes_number telling lines count i shape all first old new within is before passes =
    let more : count - i ≡ suc (count - (i + 1)) = omega (arith, within) in
    goes_on (held_in pairs_in (told telling (Some (i + 1)) lines)) (pairs_from telling lines (count - (i + 1)) (i + 1 + 1)) all first old new
    (λ rest. ap (λ n. going old (pairs_from telling lines n (i + 1) ++ rest)) (sym more) ∙ before rest)
    (λ rest. passes rest ∙ ap (λ (own : Option (ℕ × Record)). going old (held_in pairs_in own ++ rest)) is)

pub goes_numbers : (telling : ℕ) (lines : List RecordLine) (count i : ℕ) (all : List HeldPoint) (first last : Walk) → count ≤ i → Goes last (pairs_from telling lines (count - i) (i + 1)) first all
    → (rest : List HeldPoint) → going last rest ≡ going first (all ++ rest)
goes_numbers telling lines count i all first last out goes rest =
    let none : 0 ≡ count - i = omega (arith, out) in
    ap (λ n. going last (pairs_from telling lines n (i + 1) ++ rest)) none ∙ goes rest

-- one pair more
pub goes_pair : (place : ℕ) (pairs : List (Option Point)) (i : ℕ) (pair : Option Point) (all : List HeldPoint) (first old new : Walk) → i < length pairs → pair ≡ get_or pairs i pair
    → Goes old (pairs_held place (i + 1) (drop i pairs)) first all → ((rest : List HeldPoint) → going new rest ≡ going old (pair_held place (i + 1) pair ++ rest))
    → Goes new (pairs_held place (i + 1 + 1) (drop (i + 1) pairs)) first all
goes_pair place pairs i pair all first old new within at before passes =
    let here : drop i pairs ≡ pair ∷ drop (i + 1) pairs = drop_more pairs i pair within ∙ ap (λ (p : Option Point). p ∷ drop (i + 1) pairs) (sym at) in
    goes_on (pair_held place (i + 1) pair) (pairs_held place (i + 1 + 1) (drop (i + 1) pairs)) all first old new
    (λ rest. ap (λ (ps : List (Option Point)). going old (pairs_held place (i + 1) ps ++ rest)) (sym here) ∙ before rest) passes

pub goes_pairs : (place : ℕ) (pairs : List (Option Point)) (i : ℕ) (all : List HeldPoint) (first last : Walk) → length pairs ≤ i → Goes last (pairs_held place (i + 1) (drop i pairs)) first all
    → (rest : List HeldPoint) → going last rest ≡ going first (all ++ rest)
goes_pairs place pairs i all first last out goes rest = ap (λ (ps : List (Option Point)). going last (pairs_held place (i + 1) ps ++ rest)) (sym (past pairs i out)) ∙ goes rest

-- where nothing is left, what was found is
pub found_at_end : (last : Walk) → last.segments.items ≡ going last []
found_at_end last = none_left last.before
  where
    none_left : (before : Option HeldPoint) → last.segments.items ≡ last.segments.items ++ segments_from before []
    none_left None = sym (append-nil last.segments.items)
    none_left (Some point) = sym (append-nil last.segments.items)

-- ---- one point more

is_not : (b : Bool) → not b ≡ true → b ≡ false
is_not true is = absurd (let wrong = is in cc)
is_not false _ = refl

is_so : (b : Bool) → not b ≡ false → b ≡ true
is_so true _ = refl
is_so false is = absurd (let wrong = is in cc)

-- behind another point
pub passed : (before : Option HeldPoint) (found : List HeldSegment) (b point : HeldPoint) (differs : Bool) (rest : List HeldPoint) → before ≡ Some b → differs ≡ not (same_point b.point point.point) → differs ≡ true
    → (found ++ record { from = b; to = point } ∷ []) ++ segments_from (Some point) rest ≡ found ++ segments_from before (point ∷ rest)
passed None found b point differs rest is test differ = absurd (let wrong = is in cc)
passed (Some a) found b point differs rest is test differ =
    let one : a ≡ b = let all = is in cc in
    let apart : same_point b.point point.point ≡ false = is_not (same_point b.point point.point) (sym test ∙ differ) in
    rw (one, apart) (append_assoc found (record { from = b; to = point } ∷ []) (segments_from (Some point) rest))

-- it repeats the point before
pub repeated : (before : Option HeldPoint) (b point : HeldPoint) (differs : Bool) (rest : List HeldPoint) → before ≡ Some b → differs ≡ not (same_point b.point point.point) → differs ≡ false
    → segments_from (Some point) rest ≡ segments_from before (point ∷ rest)
repeated None b point differs rest is test differ = absurd (let wrong = is in cc)
repeated (Some a) b point differs rest is test differ =
    let one : a ≡ b = let all = is in cc in
    let same : same_point b.point point.point ≡ true = is_so (same_point b.point point.point) (sym test ∙ differ) in
    rw (one, same) refl

-- it is the first
pub begun : (before : Option HeldPoint) (point : HeldPoint) (rest : List HeldPoint) → before ≡ None → segments_from (Some point) rest ≡ segments_from before (point ∷ rest)
begun None point rest is = refl
begun (Some b) point rest is = absurd (let wrong = is in cc)
