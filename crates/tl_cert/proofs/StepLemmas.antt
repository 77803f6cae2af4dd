-- The lines that lead on from a state: each is short, and leads to one state.
use Rattle.std.proofs.Common.{◌≡◌, ℕ, ℤ, zero, suc, ◌+◌, ◌<◌, ◌≤◌, ◌⊎◌, inl, inr, length, List, ◌++◌, refl, sym, ap, ◌∙◌, arith, codes, decimal}
use Rattle.std.proofs.Common.{FitsSigned, w32, length-append}
use Rattle.std.specs.Fmt.{signed_decimal}
use Rattle.std.proofs.lemmas.Fmt.{length-decimal-le, length_signed_le}
use Rattle.tl_geom.specs.declared.rect.Rect.{Rect}
use Rattle.tl_record.specs.Lines.{line_feeds}
use Rattle.tl_record.proofs.LineLemmas.{feeds-append, other_counts}
use Rattle.tl_cert.specs.declared.certificate.Counts.{Counts}
use Rattle.tl_cert.specs.Certificates.{IsNumber, IsInRange, AreCountsInRange}
use Rattle.tl_cert.specs.Text.{number, coordinate_text, numbered_line, counts_line, end_line, rectangle, children, inner_line, leaf_line}
use Rattle.tl_cert.specs.Keeping.Steps.{State, start, headed, counted, tree, rounds, walks, ended, CanHave, roots, Steps, at_head, at_counts, at_nodes}
use Rattle.tl_cert.specs.Keeping.Steps.{at_inner, at_leaf, at_item, at_rounds, at_round, at_round_dart, at_walks, at_walk, at_walk_dart, at_end}
use Rattle.tl_cert.proofs.WordLemmas.{decimal_feeds, signed_feeds, magnitude_32}
use Rattle.tl_cert.proofs.LineWords.{number_line_only, inner_only, leaf_only, inner_not_leaf}

-- ---- how long

-- at most so many bytes, none of them a line feed
abbrev pub IsShort : ℕ → List ℕ → Type 0
IsShort n line = (line_feeds line ≡ 0) × (length line ≤ n)

short_append : (m n : ℕ) (x y : List ℕ) → IsShort m x → IsShort n y → IsShort (m + n) (x ++ y)
short_append m n x y h l = (feeds-append x y ∙ omega (arith, h.0, l.0), omega (arith, length-append x y, h.1, l.1))

short_more : (m n : ℕ) (x : List ℕ) → m ≤ n → IsShort m x → IsShort n x
short_more m n x h l = (l.0, omega (arith, l.1))

pub number_short : (n : ℕ) → IsNumber n → IsShort 11 (number n)
number_short n small =
    let long = length-decimal-le 10 n (omega arith) (omega arith) (omega arith) in
    (other_counts 32 (decimal n) refl ∙ decimal_feeds n (omega arith), omega (arith, long))

pub coordinate_short : (z : ℤ) → FitsSigned w32 z → IsShort 12 (coordinate_text z)
coordinate_short z fits =
    let small = magnitude_32 z fits in
    let long = length_signed_le 10 z (omega (arith, small)) (omega (arith, small)) in
    (other_counts 32 (signed_decimal z) refl ∙ signed_feeds z (omega (arith, small)), omega (arith, long))

pub numbered_short : (n m : ℕ) (word : List ℕ) → IsShort n word → IsNumber m → IsShort (n + 11) (numbered_line word m)
numbered_short n m word short small = short_append n 11 word (number m) short (number_short m small)

pub rectangle_short : (r : Rect) → IsInRange r → IsShort 48 (rectangle r)
rectangle_short r f =
    short_append 36 12 (coordinate_text r.xmin ++ coordinate_text r.ymin ++ coordinate_text r.xmax) (coordinate_text r.ymax)
    (short_append 24 12 (coordinate_text r.xmin ++ coordinate_text r.ymin) (coordinate_text r.xmax)
    (short_append 12 12 (coordinate_text r.xmin) (coordinate_text r.ymin) (coordinate_short r.xmin f.xmin) (coordinate_short r.ymin f.ymin))
    (coordinate_short r.xmax f.xmax))
    (coordinate_short r.ymax f.ymax)

pub counts_short : (c : Counts) → AreCountsInRange c → IsShort 45 (counts_line c)
counts_short c f =
    short_append 34 11 (codes "C" ++ number c.chains ++ number c.segments ++ number c.nodes) (number c.polygons)
    (short_append 23 11 (codes "C" ++ number c.chains ++ number c.segments) (number c.nodes)
    (short_append 12 11 (codes "C" ++ number c.chains) (number c.segments)
    (short_append 1 11 (codes "C") (number c.chains) (refl, omega arith) (number_short c.chains f.chains))
    (number_short c.segments f.segments))
    (number_short c.nodes f.nodes))
    (number_short c.polygons f.polygons)

children_short : (v k : ℕ) → k ≤ 8 → IsShort 11 (children v k)
children_short zero k few = (refl, omega arith)
children_short (suc zero) k few = (refl, omega arith)
children_short (suc (suc v)) k few = number_short k (omega arith)

pub inner_short : (v : ℕ) (r : Rect) (k : ℕ) → IsInRange r → k ≤ 8 → IsShort 60 (inner_line v r k)
inner_short v r k f few =
    short_append 49 11 (codes "B" ++ rectangle r) (children v k) (short_append 1 48 (codes "B") (rectangle r) (refl, omega arith) (rectangle_short r f))
    (children_short v k few)

pub leaf_short : (r : Rect) (k : ℕ) → IsInRange r → k ≤ 8 → IsShort 60 (leaf_line r k)
leaf_short r k f few =
    short_append 49 11 (codes "L" ++ rectangle r) (number k) (short_append 1 48 (codes "L") (rectangle r) (refl, omega arith) (rectangle_short r f))
    (number_short k (omega arith))

line_short : (word : List ℕ) (m : ℕ) → IsShort 9 word → IsNumber m → IsShort 63 (numbered_line word m)
line_short word m short small = short_more 20 63 (numbered_line word m) (omega arith) (numbered_short 9 m word short small)

step_is_short : (s t : State) (line : List ℕ) → Steps s line t → IsShort 63 line
step_is_short s t line (at_head v (inl known)) = line_short (codes "TIGERCERT") v (refl, omega arith) (omega arith)
step_is_short s t line (at_head v (inr known)) = line_short (codes "TIGERCERT") v (refl, omega arith) (omega arith)
step_is_short s t line (at_counts v c range) = short_more 45 63 (counts_line c) (omega arith) (counts_short c range)
step_is_short s t line (at_nodes v n small can) = line_short (codes "T") n (refl, omega arith) small
step_is_short s t line (at_inner v p r rect k range least most two can) =
    short_more 60 63 (inner_line v rect k) (omega arith) (inner_short v rect k range most)
step_is_short s t line (at_leaf v p r rect k range least most can) =
    short_more 60 63 (leaf_line rect k) (omega arith) (leaf_short rect k range most)
step_is_short s t line (at_item v p r i x small) = line_short (codes "S") x (refl, omega arith) small
step_is_short s t line (at_rounds v m small) = line_short (codes "N") m (refl, omega arith) small
step_is_short s t line (at_round m k some small) = line_short (codes "R") k (refl, omega arith) small
step_is_short s t line (at_round_dart m k x small) = line_short (codes "D") x (refl, omega arith) small
step_is_short s t line (at_walks m small) = line_short (codes "W") m (refl, omega arith) small
step_is_short s t line (at_walk m k some small) = line_short (codes "K") k (refl, omega arith) small
step_is_short s t line (at_walk_dart m k x small) = line_short (codes "D") x (refl, omega arith) small
step_is_short s t line at_end = (refl, omega arith)

pub step_short : (s t : State) (line : List ℕ) → Steps s line t → (line_feeds line ≡ 0) × (length line ≤ 63)
step_short s t line step = step_is_short s t line step

-- ---- where to

-- an inner node's line
pub record IsInnerStep (v p r : ℕ) (line : List ℕ) (t : State) : Type 0 where
  pub rect : Rect
  pub k : ℕ
  pub range : IsInRange rect
  pub least : 2 ≤ k
  pub most : k ≤ 8
  pub two : v ≤ 1 → k ≡ 2
  pub can : CanHave v (k + p) r
  pub spelt : line ≡ inner_line v rect k
  pub next : t ≡ tree v (k + p) r 0

-- a leaf's line
pub record IsLeafStep (v p r : ℕ) (line : List ℕ) (t : State) : Type 0 where
  pub rect : Rect
  pub k : ℕ
  pub range : IsInRange rect
  pub least : 1 ≤ k
  pub most : k ≤ 8
  pub can : CanHave v p r
  pub spelt : line ≡ leaf_line rect k
  pub next : t ≡ tree v p r k

-- a line of this word and a number for which this holds
pub record IsNumberStep (word : List ℕ) (P : ℕ → Type 0) (to : ℕ → State) (line : List ℕ) (t : State) : Type 0 where
  pub value : ℕ
  pub small : IsNumber value
  pub holds : P value
  pub spelt : line ≡ numbered_line word value
  pub next : t ≡ to value

-- which line leads on from a state, and where, by cases on the state
abbrev pub Leads : State → List ℕ → State → Type 0
Leads start line t = IsNumberStep (codes "TIGERCERT") (λ v. (v ≡ 1) ⊎ (v ≡ 2)) headed line t
Leads (headed v) line t = (c : Counts) × AreCountsInRange c × (line ≡ counts_line c) × (t ≡ counted v)
Leads (counted v) line t = IsNumberStep (codes "T") (λ n. CanHave v (roots n) n) (λ n. tree v (roots n) n 0) line t
Leads (tree v p r (suc i)) line t = IsNumberStep (codes "S") (λ x. Unit {0}) (λ x. tree v p r i) line t
Leads (tree v (suc p) (suc r) zero) line t = IsInnerStep v p r line t ⊎ IsLeafStep v p r line t
Leads (tree v (suc p) zero zero) line t = ⊥
Leads (tree v zero (suc r) zero) line t = ⊥
Leads (tree v zero zero zero) line t = IsNumberStep (codes "N") (λ m. Unit {0}) (λ m. rounds m 0) line t
Leads (rounds m (suc k)) line t = IsNumberStep (codes "D") (λ x. Unit {0}) (λ x. rounds m k) line t
Leads (rounds (suc m) zero) line t = IsNumberStep (codes "R") (λ k. 0 < k) (λ k. rounds m k) line t
Leads (rounds zero zero) line t = IsNumberStep (codes "W") (λ m. Unit {0}) (λ m. walks m 0) line t
Leads (walks m (suc k)) line t = IsNumberStep (codes "D") (λ x. Unit {0}) (λ x. walks m k) line t
Leads (walks (suc m) zero) line t = IsNumberStep (codes "K") (λ k. 0 < k) (λ k. walks m k) line t
Leads (walks zero zero) line t = (line ≡ end_line) × (t ≡ ended)
Leads ended line t = ⊥

pub leads : (s t : State) (line : List ℕ) → Steps s line t → Leads s line t
leads s t line (at_head v (inl known)) = record { value = v; small = omega arith; holds = inl known; spelt = refl; next = refl }
leads s t line (at_head v (inr known)) = record { value = v; small = omega arith; holds = inr known; spelt = refl; next = refl }
leads s t line (at_counts v c range) = (c, range, refl, refl)
leads s t line (at_nodes v n small can) = record { value = n; small = small; holds = can; spelt = refl; next = refl }
leads s t line (at_inner v p r rect k range least most two can) =
    inl record { rect = rect; k = k; range = range; least = least; most = most; two = two; can = can; spelt = refl; next = refl }
leads s t line (at_leaf v p r rect k range least most can) =
    inr record { rect = rect; k = k; range = range; least = least; most = most; can = can; spelt = refl; next = refl }
leads s t line (at_item v p r i x small) = record { value = x; small = small; holds = tt; spelt = refl; next = refl }
leads s t line (at_rounds v m small) = record { value = m; small = small; holds = tt; spelt = refl; next = refl }
leads s t line (at_round m k some small) = record { value = k; small = small; holds = some; spelt = refl; next = refl }
leads s t line (at_round_dart m k x small) = record { value = x; small = small; holds = tt; spelt = refl; next = refl }
leads s t line (at_walks m small) = record { value = m; small = small; holds = tt; spelt = refl; next = refl }
leads s t line (at_walk m k some small) = record { value = k; small = small; holds = some; spelt = refl; next = refl }
leads s t line (at_walk_dart m k x small) = record { value = x; small = small; holds = tt; spelt = refl; next = refl }
leads s t line at_end = (refl, refl)

same_numbered : (word : List ℕ) (P : ℕ → Type 0) (to : ℕ → State) (line : List ℕ) (t u : State)
    → IsNumberStep word P to line t → IsNumberStep word P to line u → t ≡ u
same_numbered word P to line t u a b =
    let value = number_line_only word a.value b.value a.small b.small (sym a.spelt ∙ b.spelt) in
    a.next ∙ ap to value ∙ sym b.next

same_inner : (v p r : ℕ) (line : List ℕ) (t u : State) → IsInnerStep v p r line t → IsInnerStep v p r line u → t ≡ u
same_inner v p r line t u a b =
    let value = inner_only v a.rect b.rect a.k b.k a.range b.range a.most b.most a.two b.two (sym a.spelt ∙ b.spelt) in
    a.next ∙ ap (λ k. tree v (k + p) r 0) value.1 ∙ sym b.next

same_leaf : (v p r : ℕ) (line : List ℕ) (t u : State) → IsLeafStep v p r line t → IsLeafStep v p r line u → t ≡ u
same_leaf v p r line t u a b =
    let value = leaf_only a.rect b.rect a.k b.k a.range b.range a.most b.most (sym a.spelt ∙ b.spelt) in
    a.next ∙ ap (tree v p r) value.1 ∙ sym b.next

same_node : (v p r : ℕ) (line : List ℕ) (t u : State) → IsInnerStep v p r line t ⊎ IsLeafStep v p r line t
    → IsInnerStep v p r line u ⊎ IsLeafStep v p r line u → t ≡ u
same_node v p r line t u (inl a) (inl b) = same_inner v p r line t u a b
same_node v p r line t u (inl a) (inr b) = absurd (inner_not_leaf v a.rect b.rect a.k b.k (sym a.spelt ∙ b.spelt))
same_node v p r line t u (inr a) (inl b) = absurd (inner_not_leaf v b.rect a.rect b.k a.k (sym b.spelt ∙ a.spelt))
same_node v p r line t u (inr a) (inr b) = same_leaf v p r line t u a b

leads_same : (s t u : State) (line : List ℕ) → Leads s line t → Leads s line u → t ≡ u
leads_same start t u line a b = same_numbered (codes "TIGERCERT") (λ v. (v ≡ 1) ⊎ (v ≡ 2)) headed line t u a b
leads_same (headed v) t u line a b = a.3 ∙ sym b.3
leads_same (counted v) t u line a b = same_numbered (codes "T") (λ n. CanHave v (roots n) n) (λ n. tree v (roots n) n 0) line t u a b
leads_same (tree v p r (suc i)) t u line a b = same_numbered (codes "S") (λ x. Unit {0}) (λ x. tree v p r i) line t u a b
leads_same (tree v (suc p) (suc r) zero) t u line a b = same_node v p r line t u a b
leads_same (tree v (suc p) zero zero) t u line a b = absurd a
leads_same (tree v zero (suc r) zero) t u line a b = absurd a
leads_same (tree v zero zero zero) t u line a b = same_numbered (codes "N") (λ m. Unit {0}) (λ m. rounds m 0) line t u a b
leads_same (rounds m (suc k)) t u line a b = same_numbered (codes "D") (λ x. Unit {0}) (λ x. rounds m k) line t u a b
leads_same (rounds (suc m) zero) t u line a b = same_numbered (codes "R") (λ k. 0 < k) (λ k. rounds m k) line t u a b
leads_same (rounds zero zero) t u line a b = same_numbered (codes "W") (λ m. Unit {0}) (λ m. walks m 0) line t u a b
leads_same (walks m (suc k)) t u line a b = same_numbered (codes "D") (λ x. Unit {0}) (λ x. walks m k) line t u a b
leads_same (walks (suc m) zero) t u line a b = same_numbered (codes "K") (λ k. 0 < k) (λ k. walks m k) line t u a b
leads_same (walks zero zero) t u line a b = a.1 ∙ sym b.1
leads_same ended t u line a b = absurd a

pub step_same : (s t u : State) (line : List ℕ) → Steps s line t → Steps s line u → t ≡ u
step_same s t u line first second = leads_same s t u line (leads s t line first) (leads s u line second)
