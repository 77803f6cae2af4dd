-- What a line says can be told from its bytes.
use Rattle.std.proofs.Common.{◌≡◌, ℕ, zero, suc, ◌≤◌, List, [], ◌++◌, refl, sym, ◌∙◌, arith, append_assoc}
use Rattle.tl_geom.specs.declared.rect.Rect.{Rect}
use Rattle.tl_cert.specs.declared.certificate.Counts.{Counts}
use Rattle.tl_cert.specs.Certificates.{IsNumber, IsInRange, AreCountsInRange}
use Rattle.tl_cert.specs.Text.{number, coordinate_text, numbered_line, counts_line, rectangle, inner_line, leaf_line}
use Rattle.tl_cert.specs.Keeping.Words.{StartsWord}
use Rattle.tl_cert.proofs.WordLemmas.{same_first, same_rest, number_only, coordinate_only_32, numbered_only}

-- the first of some words, and what follows it
four_words : (a b c d : List ℕ) → a ++ b ++ c ++ d ≡ a ++ (b ++ (c ++ d))
four_words a b c d = append_assoc (a ++ b) c d ∙ append_assoc a b (c ++ d)

five_words : (a b c d x : List ℕ) → a ++ b ++ c ++ d ++ x ≡ a ++ (b ++ (c ++ (d ++ x)))
five_words a b c d x = append_assoc (a ++ b ++ c) d x ∙ four_words a b c (d ++ x)

pub rectangle_only : (q r : Rect) (x y : List ℕ) → IsInRange q → IsInRange r → StartsWord x → StartsWord y
    → rectangle q ++ x ≡ rectangle r ++ y → (q ≡ r) × (x ≡ y)
rectangle_only q r x y f g h l same =
    let apart = sym (five_words (coordinate_text q.xmin) (coordinate_text q.ymin) (coordinate_text q.xmax) (coordinate_text q.ymax) x)
    ∙ same ∙ five_words (coordinate_text r.xmin) (coordinate_text r.ymin) (coordinate_text r.xmax) (coordinate_text r.ymax) y in
    let first = coordinate_only_32 q.xmin r.xmin _ _ f.xmin g.xmin refl refl apart in
    let second = coordinate_only_32 q.ymin r.ymin _ _ f.ymin g.ymin refl refl first.1 in
    let third = coordinate_only_32 q.xmax r.xmax _ _ f.xmax g.xmax refl refl second.1 in
    let fourth = coordinate_only_32 q.ymax r.ymax x y f.ymax g.ymax h l third.1 in
    (λ i. record { xmin = first.0 i; ymin = second.0 i; xmax = third.0 i; ymax = fourth.0 i }, fourth.1)

pub number_line_only : (word : List ℕ) (m n : ℕ) → IsNumber m → IsNumber n → numbered_line word m ≡ numbered_line word n → m ≡ n
number_line_only word m n low small same = numbered_only word m n (omega arith) (omega arith) same

pub counts_only : (c d : Counts) → AreCountsInRange c → AreCountsInRange d → counts_line c ≡ counts_line d → c ≡ d
counts_only c d f g same =
    let apart = sym (four_words (number c.chains) (number c.segments) (number c.nodes) (number c.polygons))
    ∙ same_rest 67 67 _ _ same ∙ four_words (number d.chains) (number d.segments) (number d.nodes) (number d.polygons) in
    let first = number_only c.chains d.chains _ _ (omega (arith, f.chains)) (omega (arith, g.chains)) refl refl apart in
    let second = number_only c.segments d.segments _ _ (omega (arith, f.segments)) (omega (arith, g.segments)) refl refl first.1 in
    let third = number_only c.nodes d.nodes _ _ (omega (arith, f.nodes)) (omega (arith, g.nodes)) refl refl second.1 in
    let fourth = number_line_only [] c.polygons d.polygons f.polygons g.polygons third.1 in
    λ i. record { chains = first.0 i; segments = second.0 i; nodes = third.0 i; polygons = fourth i }

-- the number of children is told by the line of version 2, and is 2 elsewhere
pub inner_only : (v : ℕ) (q r : Rect) (k l : ℕ) → IsInRange q → IsInRange r → k ≤ 8 → l ≤ 8 → (v ≤ 1 → k ≡ 2) → (v ≤ 1 → l ≡ 2)
    → inner_line v q k ≡ inner_line v r l → (q ≡ r) × (k ≡ l)
inner_only zero q r k l f g few some two other same =
    ((rectangle_only q r [] [] f g tt tt (same_rest 66 66 _ _ same)).0, two (omega arith) ∙ sym (other (omega arith)))
inner_only (suc zero) q r k l f g few some two other same =
    ((rectangle_only q r [] [] f g tt tt (same_rest 66 66 _ _ same)).0, two (omega arith) ∙ sym (other (omega arith)))
inner_only (suc (suc v)) q r k l f g few some two other same =
    let parts = rectangle_only q r (number k) (number l) f g refl refl (same_rest 66 66 _ _ same) in
    (parts.0, number_line_only [] k l (omega arith) (omega arith) parts.1)

pub leaf_only : (q r : Rect) (k l : ℕ) → IsInRange q → IsInRange r → k ≤ 8 → l ≤ 8 → leaf_line q k ≡ leaf_line r l → (q ≡ r) × (k ≡ l)
leaf_only q r k l f g few some same =
    let parts = rectangle_only q r (number k) (number l) f g refl refl (same_rest 76 76 _ _ same) in
    (parts.0, number_line_only [] k l (omega arith) (omega arith) parts.1)

-- an inner node's line is no leaf's
pub inner_not_leaf : (v : ℕ) (q r : Rect) (k l : ℕ) → inner_line v q k ≡ leaf_line r l → ⊥
inner_not_leaf v q r k l same = omega (arith, same_first 66 76 _ _ same)
