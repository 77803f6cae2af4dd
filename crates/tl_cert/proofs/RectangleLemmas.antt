-- The coordinates of a rectangle, one after the other.
use Rattle.std.proofs.Common.{◌≡◌, ℕ, ℤ, List, ◌++◌, refl, sym, ap, ◌∙◌, FitsSigned, w32, append_assoc, to_z, of_z}
use Rattle.std.proofs.lemmas.Int.{to_z-of_z}
use Rattle.tl_geom.specs.declared.rect.Rect.{Rect}
use Rattle.tl_cert.specs.Certificates.{IsInRange}
use Rattle.tl_cert.specs.Text.{coordinate_text, rectangle}
use Rattle.tl_cert.specs.Keeping.Words.{StartsWord}
use Rattle.tl_cert.proofs.WordLemmas.{coordinate_only_32}

-- the bytes are a coordinate_text and what is left behind it
abbrev pub IsRead : List ℕ → ℤ → List ℕ → Type 0
IsRead bytes z rest = (bytes ≡ coordinate_text z ++ rest) × StartsWord rest × FitsSigned w32 z

-- a rectangle's coordinates before other bytes
pub rectangle_before : (r : Rect) (rest : List ℕ) → rectangle r ++ rest ≡ coordinate_text r.xmin ++ (coordinate_text r.ymin ++ (coordinate_text r.xmax ++ (coordinate_text r.ymax ++ rest)))
rectangle_before r rest =
    append_assoc (coordinate_text r.xmin ++ coordinate_text r.ymin ++ coordinate_text r.xmax) (coordinate_text r.ymax) rest
    ∙ append_assoc (coordinate_text r.xmin ++ coordinate_text r.ymin) (coordinate_text r.xmax) (coordinate_text r.ymax ++ rest)
    ∙ append_assoc (coordinate_text r.xmin) (coordinate_text r.ymin) (coordinate_text r.xmax ++ (coordinate_text r.ymax ++ rest))

-- what is left behind a coordinate_text that was read is what a text has behind it
pub left_behind : (bytes rest others : List ℕ) (z y : ℤ) → IsRead bytes z rest → FitsSigned w32 y → StartsWord others → bytes ≡ coordinate_text y ++ others → rest ≡ others
left_behind bytes rest others z y is fit begins same = (coordinate_only_32 z y rest others is.2 fit is.1 begins (sym is.0 ∙ same)).1

-- four coordinates are a rectangle
pub rectangle_front : (bytes one two three four : List ℕ) (a b c d : ℤ) (r : Rect) → (bytes ≡ coordinate_text a ++ one) × FitsSigned w32 a → (one ≡ coordinate_text b ++ two) × FitsSigned w32 b
    → (two ≡ coordinate_text c ++ three) × FitsSigned w32 c → (three ≡ coordinate_text d ++ four) × FitsSigned w32 d
    → r ≡ record { xmin = to_z w32 (of_z w32 a); ymin = to_z w32 (of_z w32 b); xmax = to_z w32 (of_z w32 c); ymax = to_z w32 (of_z w32 d) }
    → (bytes ≡ rectangle r ++ four) × IsInRange r
rectangle_front bytes one two three four a b c d r first second third fourth is =
    let same : r ≡ record { xmin = a; ymin = b; xmax = c; ymax = d } = is ∙ rw (to_z-of_z w32 a first.1, to_z-of_z w32 b second.1, to_z-of_z w32 c third.1, to_z-of_z w32 d fourth.1) refl in
    rw same (
      first.0 ∙ ap (λ xs. coordinate_text a ++ xs) (second.0 ∙ ap (λ xs. coordinate_text b ++ xs) (third.0 ∙ ap (λ xs. coordinate_text c ++ xs) fourth.0))
          ∙ sym (rectangle_before (record { xmin = a; ymin = b; xmax = c; ymax = d }) four),
      record { xmin = first.1; ymin = second.1; xmax = third.1; ymax = fourth.1 },
    )

pub rectangle_read : (bytes one two three four : List ℕ) (a b c d : ℤ) (r : Rect) → IsRead bytes a one → IsRead one b two → IsRead two c three → IsRead three d four
    → r ≡ record { xmin = to_z w32 (of_z w32 a); ymin = to_z w32 (of_z w32 b); xmax = to_z w32 (of_z w32 c); ymax = to_z w32 (of_z w32 d) }
    → (bytes ≡ rectangle r ++ four) × StartsWord four × IsInRange r
rectangle_read bytes one two three four a b c d r first second third fourth is =
    let front = rectangle_front bytes one two three four a b c d r (first.0, first.2) (second.0, second.2) (third.0, third.2) (fourth.0, fourth.2) is in
    (front.0, fourth.1, front.1)
