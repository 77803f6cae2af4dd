-- Texts of lists.
use Rattle.std.proofs.lemmas.Option.{slice_get-get_or}
use Rattle.std.proofs.Common.{◌≡◌, ℕ, zero, suc, ◌+◌, ◌<◌, length, get_or, List, [], ◌∷◌, ◌++◌, take, slice_get, Some, refl, sym, ap, ◌∙◌, append_assoc, append-nil, add-one}
use Rattle.std.proofs.Common.{arith}
use Rattle.tl_geom.specs.declared.point.Point.{Point}
use Rattle.std.specs.List.{flat_map}
use Rattle.std.specs.Prelude.{codes}
use Rattle.tigertopo_pictures.specs.Geojson.Positions.{position_text, comma_position, positions_text, positions_pen}
use Rattle.tigertopo_pictures.specs.Geojson.Features.{comma_before}
use Rattle.tigertopo_pictures.specs.Items.{separated}
use Rattle.tigertopo_pictures.specs.Rings.{steps_text, line_text}

each_suc : {X Y : Type 0} (text : X → List Y) (xs : List X) (i : ℕ) (x : X) → slice_get xs i ≡ Some x → flat_map text (take (suc i) xs) ≡ flat_map text (take i xs) ++ text x
each_suc text [] i x here = cc
each_suc text (y ∷ ys) zero x here = let same : y ≡ x = cc in rw (append-nil, same) refl
each_suc text (y ∷ ys) (suc i) x here = ap (λ l. text y ++ l) (each_suc text ys i x here) ∙ sym (append_assoc (text y) (flat_map text (take i ys)) (text x))

-- one item more
pub each_next : {X Y : Type 0} (text : X → List Y) (xs : List X) (i : ℕ) (x : X) → slice_get xs i ≡ Some x → flat_map text (take (i + 1) xs) ≡ flat_map text (take i xs) ++ text x
each_next text xs i x here = rw add-one (each_suc text xs i x here)

-- the same, where the place is known to be one
pub each_at : {X Y : Type 0} (text : X → List Y) (xs : List X) (i : ℕ) (d : X) → i < length xs → flat_map text (take (i + 1) xs) ≡ flat_map text (take i xs) ++ text (get_or xs i d)
each_at text xs i d within = each_next text xs i (get_or xs i d) (slice_get-get_or xs i d within)

-- one item more behind others
pub one_behind : {X Y : Type 0} (made : X → Y) (before : List Y) (xs : List X) (i : ℕ) (d : X) → i < length xs
    → (before ++ flat_map (λ x. made x ∷ []) (take i xs)) ++ made (get_or xs i d) ∷ [] ≡ before ++ flat_map (λ x. made x ∷ []) (take (i + 1) xs)
one_behind made before xs i d within =
    append_assoc before (flat_map (λ x. made x ∷ []) (take i xs)) (made (get_or xs i d) ∷ []) ∙ ap (λ l. before ++ l) (sym (each_at (λ x. made x ∷ []) xs i d within))

-- a CENID put together of its parts
pub cenid_parts : (c d e f g : List ℕ) → [] ++ c ++ d ++ e ++ f ++ g ≡ c ++ (d ++ (e ++ (f ++ g)))
cenid_parts c d e f g = simp append_assoc

-- and a key
pub key_parts : (c d e f g slash number : List ℕ) → c ++ (d ++ (e ++ (f ++ g))) ++ slash ++ number ≡ c ++ (d ++ (e ++ (f ++ (g ++ (slash ++ number)))))
key_parts c d e f g slash number = simp append_assoc

-- the first position, and the steps to those behind it
steps_are : (p : Point) (points : List Point) → steps_text positions_pen p points ≡ flat_map comma_position points
steps_are p [] = refl
steps_are p (q ∷ rest) = ap (λ l. comma_position q ++ l) (steps_are q rest)

pub positions_parts : (points : List Point) (d : Point) → 0 < length points → position_text (get_or points 0 d) ++ line_text positions_pen points ≡ positions_text points
positions_parts [] d some = absurd (omega arith)
positions_parts (p ∷ rest) d some = ap (λ l. position_text p ++ l) (steps_are p rest)

-- one item more of a list with commas
pub separated_more : {X : Type 0} (text : X → List ℕ) (xs : List X) (i : ℕ) (d : X) → i < length xs
    → separated text (take i xs) ++ comma_before i ++ text (get_or xs i d) ≡ separated text (take (i + 1) xs)
separated_more text [] i d within = absurd (omega arith)
separated_more text (x ∷ rest) zero d within = sym (append-nil (text x))
separated_more text (x ∷ rest) (suc k) d within =
    rw (add-one, each_suc (λ y. codes "," ++ text y) rest k (get_or rest k d) (slice_get-get_or rest k d (omega (arith, within)))) (simp append_assoc)
