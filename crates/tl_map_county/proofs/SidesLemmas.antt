use Rattle.std.proofs.Common.{◌≡◌, ℕ, zero, suc, ◌<◌, ◌≤◌, ◌-◌, None, List, [], ◌∷◌, ◌++◌, length, take, replicate, get_or, refl, sym, ap, ◌∙◌, arith}
use Rattle.std.specs.Int.{w64, from_le_bytes}
use Rattle.std.proofs.lemmas.List.{length-append, length-replicate, take_all}
use Rattle.tl_map_county.specs.declared.sides.ChainSides.{ChainSides}
use Rattle.tl_map_county.specs.declared.kept.SidePair.{SidePair}
use Rattle.tl_map_county.specs.declared.kept.EndCells.{EndCells}
use Rattle.tl_map_county.specs.Kept.{given}
use Rattle.tl_map_county.specs.Keeping.Sides.{IsPairOf, with_cells, without_cells, sides_kept}

-- as many sides as pairs
pub length-sides_kept : (cs : List EndCells) (ps : List SidePair) → length (sides_kept cs ps) ≡ length ps
length-sides_kept [] [] = refl
length-sides_kept (c ∷ cs) [] = refl
length-sides_kept [] (p ∷ ps) = ap suc (length-sides_kept [] ps)
length-sides_kept (c ∷ cs) (p ∷ ps) = ap suc (length-sides_kept cs ps)

-- the sides at a place up to which ids are kept
pub kept_at : (cs : List EndCells) (ps : List SidePair) (i : ℕ) (c : EndCells) (p : SidePair) (d : ChainSides) → i < length cs → i < length ps → get_or (sides_kept cs ps) i d ≡ with_cells (get_or cs i c) (get_or ps i p)
kept_at [] ps i c p d a b = absurd (omega (arith, a))
kept_at (x ∷ cs) [] i c p d a b = absurd (omega (arith, b))
kept_at (x ∷ cs) (y ∷ ps) zero c p d a b = refl
kept_at (x ∷ cs) (y ∷ ps) (suc i) c p d a b = kept_at cs ps i c p d (omega (arith, a)) (omega (arith, b))

-- the sides at a place behind those of which ids are kept
pub bare_at : (cs : List EndCells) (ps : List SidePair) (i : ℕ) (p : SidePair) (d : ChainSides) → length cs ≤ i → i < length ps → get_or (sides_kept cs ps) i d ≡ without_cells (get_or ps i p)
bare_at cs [] i p d a b = absurd (omega (arith, b))
bare_at [] (y ∷ ps) zero p d a b = refl
bare_at [] (y ∷ ps) (suc i) p d a b = bare_at [] ps i p d (omega arith) (omega (arith, b))
bare_at (x ∷ cs) (y ∷ ps) zero p d a b = absurd (omega (arith, a))
bare_at (x ∷ cs) (y ∷ ps) (suc i) p d a b = bare_at cs ps i p d (omega (arith, a)) (omega (arith, b))

-- one chain more, of which ids are kept, as of all before it
pub kept_more : (cs : List EndCells) (ps : List SidePair) (c : EndCells) (p : SidePair) → length cs ≡ length ps → sides_kept (cs ++ c ∷ []) (ps ++ p ∷ []) ≡ sides_kept cs ps ++ with_cells c p ∷ []
kept_more [] [] c p same = refl
kept_more [] (y ∷ ps) c p same = absurd (omega (arith, same))
kept_more (x ∷ cs) [] c p same = absurd (omega (arith, same))
kept_more (x ∷ cs) (y ∷ ps) c p same = ap (λ ss. with_cells x y ∷ ss) (kept_more cs ps c p (omega (arith, same)))

-- one chain more, of which no ids are kept
pub bare_more : (cs : List EndCells) (ps : List SidePair) (p : SidePair) → length cs ≤ length ps → sides_kept cs (ps ++ p ∷ []) ≡ sides_kept cs ps ++ without_cells p ∷ []
bare_more [] [] p few = refl
bare_more (x ∷ cs) [] p few = absurd (omega (arith, few))
bare_more [] (y ∷ ps) p few = ap (λ ss. without_cells y ∷ ss) (bare_more [] ps p (omega arith))
bare_more (x ∷ cs) (y ∷ ps) p few = ap (λ ss. with_cells x y ∷ ss) (bare_more cs ps p (omega (arith, few)))

-- ids that aren't there, behind the others
pub padded : (cs : List EndCells) (ps : List SidePair) (k : ℕ) (n : EndCells) → ((p : SidePair) → with_cells n p ≡ without_cells p) → sides_kept (cs ++ replicate k n) ps ≡ sides_kept cs ps
padded [] [] zero n none = refl
padded [] [] (suc k) n none = refl
padded [] (y ∷ ps) zero n none = refl
padded [] (y ∷ ps) (suc k) n none = (λ i. none y i ∷ padded [] ps k n none i)
padded (x ∷ cs) [] k n none = refl
padded (x ∷ cs) (y ∷ ps) k n none = ap (λ ss. with_cells x y ∷ ss) (padded cs ps k n none)

-- the sides of a chain without ids
pub bare_is : (s : ChainSides) (p : SidePair) → IsPairOf s p → s.start_cell ≡ None → s.end_cell ≡ None → without_cells p ≡ s
bare_is s p pair start end = λ j. record { left = pair.left j; right = pair.right j; start_cell = sym start j; end_cell = sym end j }

-- the sides of a chain of which these ids are kept
pub with_is : (s : ChainSides) (c : EndCells) (p : SidePair) → IsPairOf s p → given c.has_start (from_le_bytes w64 c.start) ≡ s.start_cell → given c.has_end (from_le_bytes w64 c.end) ≡ s.end_cell → with_cells c p ≡ s
with_is s c p pair start end = λ j. record { left = pair.left j; right = pair.right j; start_cell = start j; end_cell = end j }

-- a chain without ids more
pub more_bare : (cs : List EndCells) (n : ℕ) (ps : List SidePair) (p : SidePair) (s : ChainSides) → length cs ≤ n → length ps ≡ n → without_cells p ≡ s → sides_kept cs (ps ++ p ∷ []) ≡ sides_kept cs ps ++ s ∷ []
more_bare cs n ps p s few same is = bare_more cs ps p (omega (arith, few, same)) ∙ ap (λ x. sides_kept cs ps ++ x ∷ []) is

-- a chain with ids more, behind those that have none
pub more_kept : (cs new : List EndCells) (n k : ℕ) (blank c : EndCells) (ps : List SidePair) (p : SidePair) (s : ChainSides) → length cs ≤ n → k ≡ length cs → length ps ≡ n → ((q : SidePair) → with_cells blank q ≡ without_cells q) → with_cells c p ≡ s → new ≡ (take n cs ++ replicate (n - k) blank) ++ c ∷ [] → sides_kept new (ps ++ p ∷ []) ≡ sides_kept cs ps ++ s ∷ []
more_kept cs new n k blank c ps p s few count same none is added =
    let all : take n cs ≡ cs = take_all n cs few in
    let long : length (cs ++ replicate (n - length cs) blank) ≡ length ps = omega (arith, few, same, length-append cs (replicate (n - length cs) blank), length-replicate (n - length cs) blank) in
    ap (λ xs. sides_kept xs (ps ++ p ∷ [])) (added ∙ ap (λ m. (take n cs ++ replicate (n - m) blank) ++ c ∷ []) count ∙ ap (λ xs. (xs ++ replicate (n - length cs) blank) ++ c ∷ []) all)
    ∙ kept_more (cs ++ replicate (n - length cs) blank) ps c p long
    ∙ ap (λ ss. ss ++ with_cells c p ∷ []) (padded cs ps (n - length cs) blank none)
    ∙ ap (λ x. sides_kept cs ps ++ x ∷ []) is
