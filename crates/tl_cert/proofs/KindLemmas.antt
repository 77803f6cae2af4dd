-- What a line spells, and that it spells nothing else.
use Rattle.std.proofs.Common.{◌≡◌, ℕ, zero, suc, List, [], ◌∷◌, ◌++◌, refl, sym, ◌∙◌, arith, append_assoc, append-nil}
use Rattle.std.specs.Fmt.{digits}
use Rattle.tl_geom.specs.declared.rect.Rect.{Rect}
use Rattle.tl_cert.specs.declared.certificate.Counts.{Counts}
use Rattle.tl_cert.specs.Certificates.{IsNumber, IsInRange, AreCountsInRange}
use Rattle.tl_cert.specs.Text.{number, rectangle, head_line, numbered_line, children}
use Rattle.tl_cert.specs.Keeping.Words.{StartsWord, counts_words}
use Rattle.tl_cert.proofs.WordLemmas.{number_only, coordinate_only_32, numbered_only}
use Rattle.tl_cert.proofs.RectangleLemmas.{rectangle_before}

-- the two first lines
pub head_one : head_line 1 ≡ 84 ∷ 73 ∷ 71 ∷ 69 ∷ 82 ∷ 67 ∷ 69 ∷ 82 ∷ 84 ∷ 32 ∷ 49 ∷ []
unfolding digits
head_one = refl

pub head_two : head_line 2 ≡ 84 ∷ 73 ∷ 71 ∷ 69 ∷ 82 ∷ 67 ∷ 69 ∷ 82 ∷ 84 ∷ 32 ∷ 50 ∷ []
unfolding digits
head_two = refl

-- the bytes are a number and what is left behind it
abbrev pub IsNumberRead : List ℕ → ℕ → List ℕ → Type 0
IsNumberRead bytes n rest = (bytes ≡ number n ++ rest) × StartsWord rest × IsNumber n

pub left_after : (bytes rest others : List ℕ) (n m : ℕ) → IsNumberRead bytes n rest → IsNumber m → StartsWord others → bytes ≡ number m ++ others → rest ≡ others
left_after bytes rest others n m is small begins same =
    (number_only n m rest others (omega (arith, is.2)) (omega (arith, small)) is.1 begins (sym is.0 ∙ same)).1

-- one number alone
pub number_is : (bytes : List ℕ) (n m : ℕ) → bytes ≡ number n → IsNumber n → bytes ≡ number m → IsNumber m → n ≡ m
number_is bytes n m is small same below =
    (number_only n m [] [] (omega (arith, small)) (omega (arith, below)) tt tt (append-nil (number n) ∙ sym is ∙ same ∙ sym (append-nil (number m)))).0

-- counts before other bytes
pub counts_before : (c : Counts) (rest : List ℕ) → counts_words c ++ rest ≡ number c.chains ++ (number c.segments ++ (number c.nodes ++ (number c.polygons ++ rest)))
counts_before c rest =
    append_assoc (number c.chains ++ number c.segments ++ number c.nodes) (number c.polygons) rest
    ∙ append_assoc (number c.chains ++ number c.segments) (number c.nodes) (number c.polygons ++ rest)
    ∙ append_assoc (number c.chains) (number c.segments) (number c.nodes ++ (number c.polygons ++ rest))

-- what stands behind counts
pub behind_counts : (c d : Counts) (x y : List ℕ) → AreCountsInRange c → AreCountsInRange d → StartsWord x → StartsWord y → counts_words c ++ x ≡ counts_words d ++ y → x ≡ y
behind_counts c d x y small below starts begins same =
    let all = sym (counts_before c x) ∙ same ∙ counts_before d y in
    let one = number_only c.chains d.chains _ _ (omega (arith, small.chains)) (omega (arith, below.chains)) refl refl all in
    let two = number_only c.segments d.segments _ _ (omega (arith, small.segments)) (omega (arith, below.segments)) refl refl one.1 in
    let three = number_only c.nodes d.nodes _ _ (omega (arith, small.nodes)) (omega (arith, below.nodes)) refl refl two.1 in
    (number_only c.polygons d.polygons x y (omega (arith, small.polygons)) (omega (arith, below.polygons)) starts begins three.1).1

-- what stands behind a rectangle
pub behind_rectangle : (r s : Rect) (x y : List ℕ) → IsInRange r → IsInRange s → StartsWord x → StartsWord y → rectangle r ++ x ≡ rectangle s ++ y → x ≡ y
behind_rectangle r s x y fits fit starts begins same =
    let all = sym (rectangle_before r x) ∙ same ∙ rectangle_before s y in
    let one = coordinate_only_32 r.xmin s.xmin _ _ fits.xmin fit.xmin refl refl all in
    let two = coordinate_only_32 r.ymin s.ymin _ _ fits.ymin fit.ymin refl refl one.1 in
    let three = coordinate_only_32 r.xmax s.xmax _ _ fits.xmax fit.xmax refl refl two.1 in
    (coordinate_only_32 r.ymax s.ymax x y fits.ymax fit.ymax starts begins three.1).1

-- a number of children, or none, stands behind a word
pub children_start : (version k : ℕ) → StartsWord (children version k)
children_start zero k = tt
children_start (suc zero) k = tt
children_start (suc (suc version)) k = refl

-- one number behind a letter
pub numbered_is : (line word : List ℕ) (n m : ℕ) → line ≡ numbered_line word n → IsNumber n → line ≡ numbered_line word m → IsNumber m → n ≡ m
numbered_is line word n m is small same below = numbered_only word n m (omega (arith, small)) (omega (arith, below)) (sym is ∙ same)
