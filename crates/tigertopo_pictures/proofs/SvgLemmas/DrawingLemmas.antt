-- What is drawn of chains, told by what is still to come.
use Rattle.std.proofs.Common.{◌≡◌, ℕ, suc, ◌+◌, ◌<◌, ◌≤◌, List, [], ◌∷◌, length, drop, Some, sym, ap, ◌∙◌, arith}
use Rattle.std.specs.Int.{from_bool}
use Rattle.std.specs.Prelude.{Bool, true, false, if◌then◌else◌, cond, not, ◌==◌, nat_le, slice_get, fold, Option, None, is_some, MatchOption}
use Rattle.std.proofs.lemmas.List.{at_drop_all}
use Rattle.std.proofs.lemmas.Bool.Decides.{nat_tests}
use Rattle.tl_geom.specs.declared.point.Point.{Point}
use Rattle.tl_map_county.specs.declared.sides.Side.{Side}
use Rattle.tl_map_county.specs.TheMap.{MapChain, IsChain}
use Rattle.tigertopo_pictures.specs.declared.svg.frame.Frame.{Frame}
use Rattle.tigertopo_pictures.specs.declared.svg.frame.Spot.{Spot}
use Rattle.tigertopo_pictures.specs.declared.svg.walk.Stroke.{Stroke}
use Rattle.tigertopo_pictures.specs.Svg.Frames.{is_seen, spot_of}
use Rattle.tigertopo_pictures.specs.Svg.Strokes.{is_passed, strokes_from, chain_strokes, Drawing, drawings, is_shown}
use Rattle.tigertopo_pictures.proofs.PieceLemmas.{from_place}

-- what is drawn of a chain
abbrev pub drawing_of : Frame → List Point → Drawing
drawing_of f points = record { strokes = chain_strokes f points; points = points }

-- what is drawn of a chain before what is drawn of those behind it
pub drawings_next : (f : Frame) (chains : List MapChain) (n tlid : ℕ) (points : List Point) (left right : Side) → IsChain (slice_get chains n) tlid points left right
    → drawings f (drop n chains) ≡ drawing_of f points ∷ drawings f (drop (n + 1) chains)
drawings_next f chains n tlid points left right it =
    ap (drawings f) (from_place chains n it.chain it.is) ∙ ap (λ ps. drawing_of f ps ∷ drawings f (drop (n + 1) chains)) (sym it.points_are)

-- nothing is drawn behind the last chain
pub drawings_end : (f : Frame) (chains : List MapChain) (n : ℕ) → length chains ≤ n → drawings f (drop n chains) ≡ []
drawings_end f chains n past = at_drop_all (drawings f) chains n past

-- ---- counts

few : (b : Bool) (xs ys : List Stroke) (n : ℕ) → length xs ≤ n → length ys ≤ n → length (if b then xs else ys) ≤ n
few true xs ys n drawn left = drawn
few false xs ys n drawn left = left

-- there are no more strokes than points
pub strokes_few : (f : Frame) (end : Option Spot) (last : Point) (points : List Point) → length (strokes_from f end last points) ≤ length points
strokes_few f end last [] = omega arith
strokes_few f end last (p ∷ rest) =
    few (is_passed f last p rest) _ _ _ (omega (arith, strokes_few f end last rest))
    (few (is_seen f last p) _ _ _ (omega (arith, strokes_few f (Some (spot_of f p)) p rest)) (omega (arith, strokes_few f None p rest)))

-- what is counted of drawings: one chain more
pub counted_next : (g : ℕ → Drawing → ℕ) (f : Frame) (chains : List MapChain) (n tlid : ℕ) (points : List Point) (left right : Side) (count next whole : ℕ)
    → IsChain (slice_get chains n) tlid points left right → next ≡ g count (drawing_of f points)
    → fold g count (drawings f (drop n chains)) ≡ whole → fold g next (drawings f (drop (n + 1) chains)) ≡ whole
counted_next g f chains n tlid points left right count next whole it same before =
    ap (λ a. fold g a (drawings f (drop (n + 1) chains))) same
    ∙ sym (ap (fold g count) (drawings_next f chains n tlid points left right it)) ∙ before

-- all chains
pub counted_end : (g : ℕ → Drawing → ℕ) (f : Frame) (chains : List MapChain) (n count whole : ℕ) → length chains ≤ n
    → fold g count (drawings f (drop n chains)) ≡ whole → count ≡ whole
counted_end g f chains n count whole past before = sym (ap (fold g count) (drawings_end f chains n past)) ∙ before

-- the same of any list
pub fold_next : {A : Type 0} (g : ℕ → A → ℕ) (xs : List A) (n : ℕ) (x : A) (count next whole : ℕ) → slice_get xs n ≡ Some x → next ≡ g count x
    → fold g count (drop n xs) ≡ whole → fold g next (drop (n + 1) xs) ≡ whole
fold_next g xs n x count next whole is same before =
    ap (λ a. fold g a (drop (n + 1) xs)) same ∙ sym (ap (fold g count) (from_place xs n x is)) ∙ before

pub fold_end : {A : Type 0} (g : ℕ → A → ℕ) (xs : List A) (n count whole : ℕ) → length xs ≤ n → fold g count (drop n xs) ≡ whole → count ≡ whole
fold_end g xs n count whole past before = sym (at_drop_all (fold g count) xs n past) ∙ before

-- ---- one where it is so

pub one_if : (b c : Bool) (n count : ℕ) → n ≡ from_bool b → b ≡ c → count + n ≡ count + cond c 1 0
one_if b true n count is same = ap (λ k. count + k) (is ∙ ap from_bool same)
one_if b false n count is same = ap (λ k. count + k) (is ∙ ap from_bool same)

pub at_most_one : (b : Bool) (n : ℕ) → n ≡ from_bool b → n ≤ 1
at_most_one true n is = omega (arith, is)
at_most_one false n is = omega (arith, is)

not_none : (n : ℕ) → not (suc n == 0) ≡ true
not_none n = grind (arith, nat_tests)

-- something is drawn of a chain where a walk along it comes to a stroke
pub shown_if : (found : Option Stroke) (left behind strokes : List Stroke) (points : List Point) → left ≡ strokes
    → MatchOption found (left ≡ []) (λ stroke. left ≡ stroke ∷ behind) → is_some found ≡ is_shown (record { strokes = strokes; points = points })
shown_if None left behind strokes points same none = ap (λ l. not (length l == 0)) (sym none ∙ same)
shown_if (Some stroke) left behind strokes points same some = sym (not_none (length behind)) ∙ ap (λ l. not (length l == 0)) (sym some ∙ same)

-- ---- few

fits : (n most : ℕ) → n ≤ most → nat_le n most ≡ true
fits n most few = grind (arith, nat_tests)

fits_not : (n most : ℕ) → most < n → nat_le n most ≡ false
fits_not n most many = grind (arith, nat_tests)

-- so few are counted of all
pub counted_few : (count most whole : ℕ) → count ≤ most → count ≡ whole → true ≡ nat_le whole most
counted_few count most whole few is = sym (fits whole most (omega (arith, is)))

counted_more : (count : ℕ) (ds : List Drawing) → count ≤ fold (λ a (d : Drawing). a + length d.strokes) count ds
counted_more count [] = omega arith
counted_more count (d ∷ ds) = omega (arith, counted_more (count + length d.strokes) ds)

-- more are counted of some
pub counted_many : (count most whole : ℕ) (ds : List Drawing) → most < count → fold (λ a (d : Drawing). a + length d.strokes) count ds ≡ whole → false ≡ nat_le whole most
counted_many count most whole ds many is = sym (fits_not whole most (omega (arith, counted_more count ds, is)))
