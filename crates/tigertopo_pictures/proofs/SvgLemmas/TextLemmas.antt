-- Parts of a picture's text.
use Rattle.std.proofs.Common.{◌≡◌, ℕ, ℤ, List, [], ◌++◌, ◌+◌, ◌-◌, ◌<◌, ◌≤◌, length, drop, Some, get_or, codes, true, false, refl, sym, ap, ap₂, ◌∙◌, arith}
use Rattle.std.specs.Prelude.{◌-ℤ◌, ◌==◌, not, if◌then◌else◌, Option, slice_get, flat_map, zip}
use Rattle.std.proofs.lemmas.List.{drop_all}
use Rattle.std.specs.Option.{option_map_or}
use Rattle.std.proofs.lemmas.Option.{slice_get-get_or}
use Rattle.std.specs.Fmt.{signed_decimal}
use Rattle.tl_geom.specs.declared.point.Point.{Point}
use Rattle.tl_geom.specs.declared.rational.Rational.{Rational}
use Rattle.tl_check_verdict.specs.declared.fault.MapFault.{MapFault}
use Rattle.tigertopo_pictures.proofs.PieceLemmas.{from_place, five_pieces}
use Rattle.tigertopo_pictures.specs.declared.svg.frame.Frame.{Frame}
use Rattle.tigertopo_pictures.specs.declared.svg.frame.Spot.{Spot}
use Rattle.tigertopo_pictures.specs.declared.svg.walk.Stroke.{Stroke}
use Rattle.tigertopo_pictures.specs.Svg.Frames.{spot_of, is_inside}
use Rattle.tigertopo_pictures.specs.Svg.Texts.{pair_text, move_text, start_text, stroke_text, dot_text, dot_at, ends_text, fault_text, faults_part}

-- the command that goes to a place
pub move_parts : (s : Spot) (x y : ℤ) → x ≡ s.x → y ≡ s.y → pair_text (codes "M") x y ≡ move_text s
move_parts s x y along down = rw (along, down) refl

-- a stroke behind its start
pub stroke_parts : (s : Stroke) (x y : ℤ) → x ≡ s.to.x -ℤ s.from.x → y ≡ s.to.y -ℤ s.from.y
    → start_text s ++ (codes "l" ++ signed_decimal x ++ codes " " ++ signed_decimal y) ≡ stroke_text s
unfolding stroke_text
stroke_parts s x y along up =
    five_pieces (start_text s) (codes "l") (signed_decimal x) (codes " ") (signed_decimal y)
    ∙ ap₂ (λ u v. pair_text (start_text s ++ codes "l") u v) along up

-- a dot, and one that isn't there
pub dot_parts : (f : Frame) (p : Point) (spot : Spot) → is_inside f p ≡ true → spot ≡ spot_of f p → move_text spot ++ codes "h0" ≡ dot_text f p
unfolding dot_text
dot_parts f p spot inside at = rw (inside, at) refl

pub no_dot : (f : Frame) (p : Point) → is_inside f p ≡ false → [] ≡ dot_text f p
unfolding dot_text
no_dot f p outside = rw outside refl

-- the dot at a point of a chain
dot_here : (f : Frame) (points : List Point) (i : ℕ) (d : Point) → i < length points → dot_at f points i ≡ dot_text f (get_or points i d)
dot_here f points i d within = ap (λ o. option_map_or (dot_text f) o []) (slice_get-get_or points i d within)

-- the dots at both ends of a chain of which something is drawn
pub ends_parts : (f : Frame) (strokes : List Stroke) (points : List Point) (d e : Point) → not (length strokes == 0) ≡ true → 0 < length points
    → dot_text f (get_or points 0 d) ++ dot_text f (get_or points (length points - 1) e) ≡ ends_text f (record { strokes = strokes; points = points })
ends_parts f strokes points d e shown some =
    sym (ap (λ b. if b then dot_at f points 0 ++ dot_at f points (length points - 1) else []) shown
    ∙ ap₂ (λ x y. x ++ y) (dot_here f points 0 d some) (dot_here f points (length points - 1) e (omega arith)))

-- nothing is drawn of it
pub no_ends : (f : Frame) (strokes : List Stroke) (points : List Point) → not (length strokes == 0) ≡ false → [] ≡ ends_text f (record { strokes = strokes; points = points })
no_ends f strokes points none = sym (ap (λ b. if b then dot_at f points 0 ++ dot_at f points (length points - 1) else []) none)

-- the circle of a fault before those of the faults behind it
pub faults_next : (f : Frame) (faults : List MapFault) (places : List (Option Rational)) (n : ℕ) (fault : MapFault) (place : Option Rational)
    → slice_get faults n ≡ Some fault → slice_get places n ≡ Some place
    → faults_part f (drop n faults) (drop n places) ≡ fault_text f fault place ++ faults_part f (drop (n + 1) faults) (drop (n + 1) places)
unfolding faults_part
faults_next f faults places n fault place is there =
    ap₂ (λ xs ys. flat_map (λ (it : MapFault × Option Rational). fault_text f it.0 it.1) (zip xs ys)) (from_place faults n fault is) (from_place places n place there)

-- no circle is behind the last
pub faults_end : (f : Frame) (faults : List MapFault) (places : List (Option Rational)) (n : ℕ) → length faults ≤ n → faults_part f (drop n faults) (drop n places) ≡ []
unfolding faults_part
faults_end f faults places n past =
    ap (λ xs. flat_map (λ (it : MapFault × Option Rational). fault_text f it.0 it.1) (zip xs (drop n places))) (drop_all n faults past)
