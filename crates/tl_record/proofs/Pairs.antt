-- Shape pairs, as a loop reads one after the other.
use Rattle.std.proofs.Common.{◌≡◌, ℕ, ◌+◌, ◌<◌, ◌≤◌, List, [], ◌∷◌, ◌++◌, Option, Result, Ok, Err, length, take, drop, get_or, refl, sym, ap, ◌∙◌, append_assoc, add-one, drop-cons, take_all}
use Rattle.std.proofs.lemmas.List.{append-nil, drop_all}
use Rattle.tl_geom.specs.declared.point.Point.{Point}
use Rattle.tl_record.specs.declared.layout.PointColumns.{PointColumns}
use Rattle.tl_record.specs.declared.stop.Cause.{Cause}
use Rattle.tl_record.specs.declared.stop.Field.TheVariants as field_name
use Rattle.tl_record.specs.Outcome.{◌>>=◌}
use Rattle.tl_record.specs.Judgement.{optional_point_at, unless_zero, shape_pair_at, shape_pairs}

-- the pairs that were read, and those that are still to be read
abbrev pub with_front : List (Option Point) → Result (List (Option Point)) Cause → Result (List (Option Point)) Cause
with_front front read = read >>= λ rest. Ok (front ++ rest)

regroup : (front : List (Option Point)) (pair : Option Point) (read : Result (List (Option Point)) Cause)
    → with_front front (read >>= λ rest. Ok (pair ∷ rest)) ≡ with_front (front ++ pair ∷ []) read
regroup front pair (Ok rest) = ap (λ (pairs : List (Option Point)). Ok pairs) (simp append_assoc)
regroup front pair (Err cause) = refl

-- a pair that is read, and the pairs behind it
one_read : (read : Result (Option Point) Cause) (pair : Option Point) (others : Result (List (Option Point)) Cause) → (read >>= λ p. Ok (unless_zero p)) ≡ Ok pair
    → (read >>= λ p. (others >>= λ rest. Ok (unless_zero p ∷ rest))) ≡ (others >>= λ rest. Ok (pair ∷ rest))
one_read (Ok p) pair others is =
    let same : unless_zero p ≡ pair = cc in
    ap (λ (q : Option Point). others >>= λ rest. Ok (q ∷ rest)) same
one_read (Err cause) pair others is = absurd (let wrong = is in cc)

one_fails : (read : Result (Option Point) Cause) (cause : Cause) (others : Result (List (Option Point)) Cause) → (read >>= λ p. Ok (unless_zero p)) ≡ Err cause
    → (read >>= λ p. (others >>= λ rest. Ok (unless_zero p ∷ rest))) ≡ Err cause
one_fails (Ok p) cause others is = absurd (let wrong = is in cc)
one_fails (Err other) cause others is = let same : other ≡ cause = cc in ap (λ (c : Cause). Err c) same

pub goes_on : (front : List (Option Point)) (columns : List PointColumns) (i : ℕ) (here : PointColumns) (line : List ℕ) (pair : Option Point) (total : Result (List (Option Point)) Cause)
    → i < length columns → shape_pair_at (i + 1) (get_or columns i here) line ≡ Ok pair
    → with_front front (shape_pairs (i + 1) (drop i columns) line) ≡ total
    → with_front (front ++ pair ∷ []) (shape_pairs (i + 1 + 1) (drop (i + 1) columns) line) ≡ total
unfolding shape_pairs
goes_on front columns i here line pair total below read so_far =
    let split : drop i columns ≡ get_or columns i here ∷ drop (i + 1) columns = drop-cons columns i here below ∙ ap (λ k. get_or columns i here ∷ drop k columns) (sym (add-one i)) in
    let others = shape_pairs (i + 1 + 1) (drop (i + 1) columns) line in
    let one : with_front front (shape_pairs (i + 1) (drop i columns) line) ≡ with_front (front ++ pair ∷ []) others =
    ap (λ (l : List PointColumns). with_front front (shape_pairs (i + 1) l line)) split
    ∙ ap (with_front front) (one_read (optional_point_at (field_name.Long (i + 1)) (field_name.Lat (i + 1)) (get_or columns i here) line) pair others read) ∙ regroup front pair others in
    sym one ∙ so_far

pub fails : (front : List (Option Point)) (columns : List PointColumns) (i : ℕ) (here : PointColumns) (line : List ℕ) (cause : Cause) (total : Result (List (Option Point)) Cause)
    → i < length columns → shape_pair_at (i + 1) (get_or columns i here) line ≡ Err cause
    → with_front front (shape_pairs (i + 1) (drop i columns) line) ≡ total → Err cause ≡ total
unfolding shape_pairs
fails front columns i here line cause total below read so_far =
    let split : drop i columns ≡ get_or columns i here ∷ drop (i + 1) columns = drop-cons columns i here below ∙ ap (λ k. get_or columns i here ∷ drop k columns) (sym (add-one i)) in
    let others = shape_pairs (i + 1 + 1) (drop (i + 1) columns) line in
    let one : with_front front (shape_pairs (i + 1) (drop i columns) line) ≡ Err cause =
    ap (λ (l : List PointColumns). with_front front (shape_pairs (i + 1) l line)) split
    ∙ ap (with_front front) (one_fails (optional_point_at (field_name.Long (i + 1)) (field_name.Lat (i + 1)) (get_or columns i here) line) cause others read) in
    sym one ∙ so_far

pub is_done : (front : List (Option Point)) (columns : List PointColumns) (i n : ℕ) (line : List ℕ) (total : Result (List (Option Point)) Cause)
    → length columns ≤ i → length front ≤ i → with_front (take i front) (shape_pairs n (drop i columns) line) ≡ total → Ok front ≡ total
unfolding shape_pairs
is_done front columns i n line total none whole so_far =
    let left : drop i columns ≡ [] = drop_all i columns none in
    let one : with_front (take i front) (shape_pairs n (drop i columns) line) ≡ Ok front =
    rw left (ap (λ (pairs : List (Option Point)). Ok pairs) (append-nil (take i front) ∙ take_all i front whole)) in
    sym one ∙ so_far
