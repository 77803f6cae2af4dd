-- Where parts are sound with true faces, and the border between them is, the faces of the joined chains are true.
use Rattle.std.proofs.Common.{◌≡◌, ◌≢◌, ◌⊎◌, ◌↔◌, inl, inr, ℕ, zero, suc, ◌<◌, ℤ, pos, Bool, true, false, Some, List, [], ◌∷◌, slice_get, refl, sym, ap, subst, ◌∙◌, arith}
use Rattle.std.specs.Prelude.{◌==◌}
use Rattle.std.proofs.lemmas.Bool.{false≢true, eqb-true, eq-eqb, cases_lt}
use Rattle.std.proofs.lemmas.Int.{ints}
use Rattle.tl_geom.specs.declared.rational.Rational.{Rational}
use Rattle.tl_map_county.specs.declared.sides.Side.{Side}
use Rattle.tl_map_county.specs.declared.sides.Side.TheVariants.{Outside, Polygon}
use Rattle.tl_map_county.specs.TheMap.{MapChain}
use Rattle.tl_tree_index.proofs.Times.{same_or}
use Rattle.tl_check_planar.specs.Keeping.Apart.{one_found}
use Rattle.tl_check_inside.specs.Inside.{is_polygon, IsCountAt}
use Rattle.tl_check_faces.specs.Facing.{IsOff}
use Rattle.tl_check_faces.specs.Truth.{LiesAt}
use Rattle.tl_check_faces.proofs.Sums.{number_of}
use Rattle.tl_check_faces.proofs.Whole.{one_count}
use Rattle.tigertopo_border.specs.Whole.Homes.{Homes, is_named, is_of, own, tells, name, is_border, IsOfParts, IsToldByParts}
use Rattle.tigertopo_border.proofs.WholeLemmas.Told.{off}
use Rattle.tigertopo_border.proofs.WholeLemmas.Counts.{counts, no_count}
use Rattle.tigertopo_border.proofs.WholeLemmas.Lies.{HasCounts, counted, counts_of}
use Rattle.tigertopo_border.proofs.WholeLemmas.Names.{passed, below_by, polygon_own}
use Rattle.tigertopo_border.proofs.WholeLemmas.Fitting.{AreParts, part_counts, border_counts}
use Rattle.tigertopo_border.proofs.WholeLemmas.Cycles.{false_by}

same_numbers : (a b : Bool) → number_of a ≡ number_of b → a ≡ b
same_numbers true true e = refl
same_numbers false false e = refl
same_numbers true false e = absurd (omega (arith, ints, e))
same_numbers false true e = absurd (omega (arith, ints, e))

polygon_is : (k : ℕ) (s : Side) → is_polygon k s ≡ true → s ≡ Polygon k
polygon_is k Outside e = absurd (false≢true e)
polygon_is k (Polygon p) e = ap Polygon (eqb-true p k e)

polygon_self : (k : ℕ) → is_polygon k (Polygon k) ≡ true
polygon_self k = eq-eqb k k refl

not_named : (k : ℕ) (s : Side) → is_named s ≡ false → is_polygon k s ≡ false
not_named k Outside e = refl
not_named k (Polygon p) e = absurd (false≢true (sym e))

-- a side that passes a test, or none does
none_of : (Side → Bool) → List MapChain → Type 0
none_of T chains = (c : ℕ) (chain : MapChain) → slice_get chains c ≡ Some chain → (T chain.left ≡ false) × (T chain.right ≡ false)

pub side_or : (T : Side → Bool) (chains : List MapChain) →
    ((s : Side) × (T s ≡ true)) ⊎ ((c : ℕ) (chain : MapChain) → slice_get chains c ≡ Some chain → (T chain.left ≡ false) × (T chain.right ≡ false))
side_or T [] = inr (λ c chain is. absurd (cc))
side_or T (c ∷ chains) = go (T c.left) (T c.right) refl refl (side_or T chains)
  where
    go : (a b : Bool) → T c.left ≡ a → T c.right ≡ b →
        ((s : Side) × (T s ≡ true)) ⊎ ((d : ℕ) (chain : MapChain) → slice_get chains d ≡ Some chain → (T chain.left ≡ false) × (T chain.right ≡ false)) →
        ((s : Side) × (T s ≡ true)) ⊎ ((d : ℕ) (chain : MapChain) → slice_get (c ∷ chains) d ≡ Some chain → (T chain.left ≡ false) × (T chain.right ≡ false))
    go true b e f rest = inl (c.left, e)
    go false true e f rest = inl (c.right, f)
    go false false e f (inl h) = inl h
    go false false e f (inr h) = inr all
      where
        all : (d : ℕ) (chain : MapChain) → slice_get (c ∷ chains) d ≡ Some chain → (T chain.left ≡ false) × (T chain.right ≡ false)
        all zero chain is = subst (λ (z : MapChain). (T z.left ≡ false) × (T z.right ≡ false)) (one_found c chain (Some c) refl is) (e, f)
        all (suc d) chain is = h d chain is

module _ (homes : Homes) (two : (p q : ℕ) → homes.part p ≡ homes.part q → homes.number p ≡ homes.number q → p ≡ q)
    (n : ℕ) (chains border : List MapChain) (parts : AreParts homes n chains border) where
  -- ---- counts of polygons

  own_polygon : (k p : ℕ) → homes.part p ≡ k → (λ s. is_polygon (homes.number p) (own homes k s)) ≡ is_polygon p
  own_polygon k p e = subst (λ j. (λ s. is_polygon (homes.number p) (own homes j s)) ≡ is_polygon p) e (λ i s. polygon_own homes two p s i)

  pub polygon_counts : (k p : ℕ) → homes.part p ≡ k → (lt : k < n) (q : Rational) (m : ℤ) →
      IsCountAt (parts.part k lt) q (is_polygon (homes.number p)) m ↔ IsCountAt chains q (is_polygon p) m
  polygon_counts k p e lt q m =
      subst (λ S. IsCountAt (parts.part k lt) q (is_polygon (homes.number p)) m ↔ IsCountAt chains q S m) (own_polygon k p e)
      (counts (own homes k) (tells homes k) (λ c f. passed homes k c f) chains (parts.part k lt) (parts.told k lt) parts.proper q (is_polygon (homes.number p)) m)

  unknown_side : (p : ℕ) → ¬ (homes.part p < n) → (s : Side) → IsOfParts homes n s → is_polygon p s ≡ false
  unknown_side p never Outside known = refl
  unknown_side p never (Polygon q) known = false_by (q == p) (λ e. never (subst (λ z. homes.part z < n) (eqb-true q p e) known))

  pub unknown : (p : ℕ) → ¬ (homes.part p < n) → (q : Rational) → IsCountAt chains q (is_polygon p) (pos 0)
  unknown p never q =
      no_count chains parts.proper q (is_polygon p)
      (λ c chain is.
      let t : IsToldByParts homes n chain = parts.known c chain is in
      unknown_side p never chain.left t.left ∙ sym (unknown_side p never chain.right t.right))

  -- ---- at a place on no chain

  module _ (q : Rational) (clear : IsOff chains q) where
    off_part : (k : ℕ) (lt : k < n) → IsOff (parts.part k lt) q
    off_part k lt = off (own homes k) (tells homes k) chains (parts.part k lt) (parts.told k lt) q clear

    off_all : IsOff border q
    off_all = off (name homes) (is_border homes) chains border parts.border_told q clear

    -- a part names something exactly where it is named itself
    named_there : (s : Side) → HasCounts border q s → (k : ℕ) (lt : k < n) (t : Side) → HasCounts (parts.part k lt) q t → is_named t ≡ is_polygon k s
    named_there s has k lt t own_has =
        same_numbers (is_named t) (is_polygon k s)
        (one_count chains q (is_of homes k) (number_of (is_named t)) (number_of (is_polygon k s))
        ((part_counts homes n chains border parts k lt q (number_of (is_named t))).0 (own_has is_named refl))
        ((border_counts homes n chains border parts k q (number_of (is_polygon k s))).0 (has (is_polygon k) refl)))

    -- another polygon counts nothing
    count_by : (p k : ℕ) → homes.part p ≡ k → (lt : k < n) (t : Side) → HasCounts (parts.part k lt) q t → is_polygon (homes.number p) t ≡ false →
        IsCountAt chains q (is_polygon p) (pos 0)
    count_by p k e lt t has none =
        (polygon_counts k p e lt q (pos 0)).0
        (subst (λ b. IsCountAt (parts.part k lt) q (is_polygon (homes.number p)) (number_of b)) none (has (is_polygon (homes.number p)) refl))

    none_there : (s : Side) → HasCounts border q s → (p : ℕ) → is_polygon (homes.part p) s ≡ false → IsCountAt chains q (is_polygon p) (pos 0)
    none_there s has p none = elim (cases_lt (homes.part p) n) [
      | inl lt ↦
          let t : (side : Side) × HasCounts (parts.part (homes.part p) lt) q side = counted (parts.part (homes.part p) lt) (parts.good (homes.part p) lt) q (off_part (homes.part p) lt) in
          count_by p (homes.part p) refl lt t.0 t.1
          (not_named (homes.number p) t.0 (named_there s has (homes.part p) lt t.0 t.1 ∙ none))
      | inr le ↦ unknown p (λ lt. omega (arith, lt, le)) q
    ]

    lies_outside : HasCounts border q Outside → LiesAt chains q Outside
    lies_outside has p = none_there Outside has p refl

    lies_polygon : (s : Side) → HasCounts border q s → (p k : ℕ) → homes.part p ≡ k → s ≡ Polygon k → (lt : k < n) → HasCounts (parts.part k lt) q (Polygon (homes.number p)) →
        LiesAt chains q (Polygon p)
    lies_polygon s has p k e is lt own_has = (one, others)
      where
        one : IsCountAt chains q (is_polygon p) (pos 1)
        one = (polygon_counts k p e lt q (pos 1)).0
            (subst (λ b. IsCountAt (parts.part k lt) q (is_polygon (homes.number p)) (number_of b)) (polygon_self (homes.number p)) (own_has (is_polygon (homes.number p)) refl))

        others : (other : ℕ) → other ≢ p → IsCountAt chains q (is_polygon other) (pos 0)
        others other ne =
            same_or (homes.part other) k
            (λ f.
            count_by other k f lt (Polygon (homes.number p)) own_has
            (false_by (homes.number p == homes.number other) (λ g. ne (two other p (f ∙ sym e) (sym (eqb-true (homes.number p) (homes.number other) g))))))
            (λ apart.
            none_there s has other
            (ap (is_polygon (homes.part other)) is ∙ false_by (k == homes.part other) (λ g. apart (sym (eqb-true k (homes.part other) g)))))

    found : (k p' : ℕ) (s : Side) → is_polygon p' (own homes k s) ≡ true → (p : ℕ) × (homes.part p ≡ k) × (homes.number p ≡ p')
    found k p' Outside e = absurd (false≢true e)
    found k p' (Polygon p) e = go (homes.part p == k) refl e
      where
        go : (b : Bool) → (homes.part p == k) ≡ b → is_polygon p' (Rattle.std.specs.Prelude.if◌then◌else◌ b (Polygon (homes.number p)) Outside) ≡ true → (p : ℕ) × (homes.part p ≡ k) × (homes.number p ≡ p')
        go true f e = (p, eqb-true (homes.part p) k f, eqb-true (homes.number p) p' e)
        go false f e = absurd (false≢true e)

    in_part : (k : ℕ) → HasCounts border q (Polygon k) → (lt : k < n) (t : Side) → HasCounts (parts.part k lt) q t → (side : Side) × LiesAt chains q side
    in_part k has lt Outside own_has = absurd (false≢true (named_there (Polygon k) has k lt Outside own_has ∙ polygon_self k))
    in_part k has lt (Polygon p') own_has = elim (side_or (λ s. is_polygon p' (own homes k s)) chains) [
      | inl h ↦
          let f : (p : ℕ) × (homes.part p ≡ k) × (homes.number p ≡ p') = found k p' h.0 h.1 in
          (Polygon f.0, lies_polygon (Polygon k) has f.0 k f.1 refl lt (subst (λ z. HasCounts (parts.part k lt) q (Polygon z)) (sym f.2) own_has))
      | inr none ↦
          let zero_count : IsCountAt (parts.part k lt) q (is_polygon p') (pos 0) =
          (counts (own homes k) (tells homes k) (λ c f. passed homes k c f) chains (parts.part k lt) (parts.told k lt) parts.proper q (is_polygon p') (pos 0)).1
          (no_count chains parts.proper q (λ s. is_polygon p' (own homes k s)) (λ c chain is. (none c chain is).0 ∙ sym (none c chain is).1)) in
          let one : IsCountAt (parts.part k lt) q (is_polygon p') (number_of (is_polygon p' (Polygon p'))) = own_has (is_polygon p') refl in
          let e = one_count (parts.part k lt) q (is_polygon p') (pos 0) (number_of (is_polygon p' (Polygon p'))) zero_count one in
          let f : number_of (is_polygon p' (Polygon p')) ≡ pos 1 = ap number_of (polygon_self p') in
          absurd (omega (arith, ints, e, f))
    ]

    pub one_there : (side : Side) × LiesAt chains q side
    one_there = go (counted border parts.border_good q off_all)
      where
        by_side : (s : Side) → HasCounts border q s → (side : Side) × LiesAt chains q side
        by_side Outside has = (Outside, lies_outside has)
        by_side (Polygon k) has = elim (cases_lt k n) [
          | inl lt ↦
              let t : (side : Side) × HasCounts (parts.part k lt) q side = counted (parts.part k lt) (parts.good k lt) q (off_part k lt) in
              in_part k has lt t.0 t.1
          | inr le ↦
              let none : IsCountAt chains q (is_of homes k) (pos 0) =
              no_count chains parts.proper q (is_of homes k)
              (λ c chain is.
              let known : IsToldByParts homes n chain = parts.known c chain is in
              false_by (is_of homes k chain.left) (λ e. let lt = below_by homes n k chain.left known.left e in omega (arith, lt, le))
              ∙ sym (false_by (is_of homes k chain.right) (λ e. let lt = below_by homes n k chain.right known.right e in omega (arith, lt, le)))) in
              let one = (border_counts homes n chains border parts k q (number_of (is_polygon k (Polygon k)))).0 (has (is_polygon k) refl) in
              let e = one_count chains q (is_of homes k) (pos 0) (number_of (is_polygon k (Polygon k))) none one in
              let f : number_of (is_polygon k (Polygon k)) ≡ pos 1 = ap number_of (polygon_self k) in
              absurd (omega (arith, ints, e, f))
        ]

        go : (side : Side) × HasCounts border q side → (side : Side) × LiesAt chains q side
        go (s, has) = by_side s has

    -- ---- what a part and the border say of a side

    pub by_part : (p k : ℕ) → homes.part p ≡ k → (lt : k < n) → LiesAt (parts.part k lt) q (Polygon (homes.number p)) → LiesAt chains q (Polygon p)
    by_part p k e lt lies =
        let has : HasCounts (parts.part k lt) q (Polygon (homes.number p)) = counts_of (parts.part k lt) (parts.good k lt) q (off_part k lt) (Polygon (homes.number p)) lies in
        let s : (side : Side) × HasCounts border q side = counted border parts.border_good q off_all in
        lies_polygon s.0 s.1 p k e (polygon_is k s.0 (sym (named_there s.0 s.1 k lt (Polygon (homes.number p)) has))) lt has

    pub by_border : LiesAt border q Outside → LiesAt chains q Outside
    by_border lies = lies_outside (counts_of border parts.border_good q off_all Outside lies)
