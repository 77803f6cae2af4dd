-- Parts that are sound with a border that is: at a place where a part is alone no chain of another part runs, and no chain of the border.
use Rattle.std.proofs.Common.{◌≡◌, ◌≢◌, ◌↔◌, ℕ, ◌<◌, ℤ, pos, Bool, true, false, Some, List, slice_get, refl, sym, ap, subst, ◌∙◌, arith}
use Rattle.std.proofs.lemmas.Bool.{false≢true, eqb-true}
use Rattle.std.proofs.lemmas.Int.{ints}
use Rattle.tl_geom.specs.declared.rational.Rational.{Rational}
use Rattle.tl_map_county.specs.declared.sides.Side.{Side}
use Rattle.tl_map_county.specs.declared.sides.Side.TheVariants.{Outside, Polygon}
use Rattle.tl_map_county.specs.TheMap.{MapChain}
use Rattle.tl_check_planar.specs.Planar.{IsOnChain}
use Rattle.tl_check_inside.specs.Inside.{is_polygon, IsCountAt}
use Rattle.tl_check_faces.specs.Crossings.Headings.{AreProper}
use Rattle.tl_check_faces.specs.Facing.{IsOff}
use Rattle.tl_check_faces.specs.Clear.{IsOffBoundary}
use Rattle.tl_check_faces.proofs.Sums.{number_of}
use Rattle.tl_check_faces.proofs.Whole.{one_count}
use Rattle.tigertopo_border.specs.Whole.Told.{AreTold}
use Rattle.tigertopo_border.specs.Whole.Homes.{Homes, is_named, is_of, own, tells, name, is_border, IsToldByParts}
use Rattle.tigertopo_border.proofs.WholeLemmas.Told.{place, StandsAt, there, IsToldAs, told_as, off_boundary}
use Rattle.tigertopo_border.proofs.WholeLemmas.AsOne.{of_part, of_border}
use Rattle.tigertopo_border.proofs.WholeLemmas.Lies.{AreGood, HasCounts, counted, on_chain}
use Rattle.tigertopo_border.proofs.WholeLemmas.Names.{named_own, polygon_name, tells_left, border_of, not_both, IsInner, inner, below_by}

-- ---- numbers of tests

pub number_one : (b : Bool) → number_of b ≡ pos 1 → b ≡ true
number_one true e = refl
number_one false e = absurd (omega (arith, ints, e))

pub number_zero : (b : Bool) → number_of b ≡ pos 0 → b ≡ false
number_zero true e = absurd (omega (arith, ints, e))
number_zero false e = refl

pub not_differ : (a b : Bool) → ¬ (a ≢ b) → a ≡ b
not_differ true true h = refl
not_differ false false h = refl
not_differ true false h = absurd (h (λ e. false≢true (sym e)))
not_differ false true h = absurd (h (λ e. false≢true e))

pub one_polygon_of : (j k : ℕ) (s : Side) → is_polygon j s ≡ true → is_polygon k s ≡ true → j ≡ k
one_polygon_of j k Outside e f = absurd (false≢true e)
one_polygon_of j k (Polygon p) e f = sym (eqb-true p j e) ∙ eqb-true p k f

-- ---- parts and their border

-- chains that are joined from n parts, each of them sound with true faces, as the border between them is
pub record AreParts (homes : Homes) (n : ℕ) (chains border : List MapChain) : Type 0 where
  pub proper : AreProper chains
  pub known : (c : ℕ) (chain : MapChain) → slice_get chains c ≡ Some chain → IsToldByParts homes n chain
  pub part : (k : ℕ) → k < n → List MapChain
  pub told : (k : ℕ) (lt : k < n) → AreTold (own homes k) (tells homes k) chains (part k lt)
  pub good : (k : ℕ) (lt : k < n) → AreGood (part k lt)
  pub border_told : AreTold (name homes) (is_border homes) chains border
  pub border_good : AreGood border

module _ (homes : Homes) (n : ℕ) (chains border : List MapChain) (parts : AreParts homes n chains border) where
  -- ---- counts of a part as a whole

  module _ (k : ℕ) where
    as_named : (λ s. is_named (own homes k s)) ≡ is_of homes k
    as_named = λ i s. named_own homes k s i

    as_polygon : (λ s. is_polygon k (name homes s)) ≡ is_of homes k
    as_polygon = λ i s. polygon_name homes k s i

    module _ (lt : k < n) where
      pub part_counts : (q : Rational) (m : ℤ) → IsCountAt (parts.part k lt) q is_named m ↔ IsCountAt chains q (is_of homes k) m
      part_counts q m = of_part homes k chains parts.proper q m (parts.part k lt) (parts.told k lt)

      pub part_boundary : (r : Rational) → IsOffBoundary chains (is_of homes k) r → IsOffBoundary (parts.part k lt) is_named r
      part_boundary r off =
          off_boundary (own homes k) (tells homes k) chains (parts.part k lt) (parts.told k lt) is_named r
          (subst (λ S. IsOffBoundary chains S r) (sym as_named) off)

    pub border_counts : (q : Rational) (m : ℤ) → IsCountAt border q (is_polygon k) m ↔ IsCountAt chains q (is_of homes k) m
    border_counts q m = of_border homes k chains parts.proper q m border parts.border_told

    pub border_boundary : (r : Rational) → IsOffBoundary chains (is_of homes k) r → IsOffBoundary border (is_polygon k) r
    border_boundary r off =
        off_boundary (name homes) (is_border homes) chains border parts.border_told (is_polygon k) r
        (subst (λ S. IsOffBoundary chains S r) (sym as_polygon) off)

  -- a chain of the border holds no place that is on no chain of it
  pub on_border : (r : Rational) → IsOff border r → (c : ℕ) (chain : MapChain) → slice_get chains c ≡ Some chain → is_border homes chain ≡ true → ¬ IsOnChain chain.points r
  on_border r off c chain is t on =
      let s : IsToldAs (name homes) (is_border homes) chains border chain c = told_as (name homes) (is_border homes) chains border parts.border_told c chain is t in
      off s.place_of s.one s.is (subst (λ p. IsOnChain p r) (sym s.named.points) on)

  -- so it is of no boundary of a part
  pub inside : (r : Rational) → IsOff border r → (k : ℕ) → IsOffBoundary chains (is_of homes k) r
  inside r off k c chain is differ on = on_border r off c chain is (border_of homes k chain differ) on

  -- where a chain of part j runs within it, part j counts 1
  pub within_counts : (r : Rational) (j : ℕ) → j < n → IsOffBoundary chains (is_of homes j) r → (c : ℕ) (chain : MapChain) → slice_get chains c ≡ Some chain →
      is_of homes j chain.left ≡ true → IsOnChain chain.points r → IsCountAt chains r (is_of homes j) (pos 1)
  within_counts r j lt off c chain is left on =
      let s : IsToldAs (own homes j) (tells homes j) chains (parts.part j lt) chain c =
      told_as (own homes j) (tells homes j) chains (parts.part j lt) (parts.told j lt) c chain is (tells_left homes j chain left) in
      let at : IsOnChain s.one.points r = subst (λ p. IsOnChain p r) (sym s.named.points) on in
      let named : is_named s.one.left ≡ true = ap is_named s.named.left ∙ named_own homes j chain.left ∙ left in
      (part_counts j lt r (pos 1)).0
      (subst (λ b. IsCountAt (parts.part j lt) r is_named (number_of b)) named
      (on_chain (parts.part j lt) (parts.good j lt) s.place_of s.one s.is r at.0 at.1 is_named refl (part_boundary j lt r off)))

  -- ---- a place where part k counts 1, and that is not of its boundary

  module _ (k : ℕ) (r : Rational) (off : IsOffBoundary chains (is_of homes k) r) (one : IsCountAt chains r (is_of homes k) (pos 1)) where
    pub off_border : IsOff border r
    off_border c chain is (j, held) =
        let S : Side → Bool = is_polygon k in
        let free : IsOffBoundary border S r = border_boundary k r off in
        let here : IsCountAt border r S (number_of (S chain.left)) = on_chain border parts.border_good c chain is r j held S refl free in
        let left : S chain.left ≡ true =
        number_one (S chain.left) (one_count border r S (number_of (S chain.left)) (pos 1) here ((border_counts k r (pos 1)).1 one)) in
        let same : S chain.left ≡ S chain.right = not_differ (S chain.left) (S chain.right) (λ differ. free c chain is differ (j, held)) in
        let s : StandsAt (name homes) (is_border homes) chains chain (place (name homes) (is_border homes) chains c) =
        there (name homes) (is_border homes) chains border parts.border_told c chain is in
        not_both homes k s.chain s.told_is
        (sym (polygon_name homes k s.chain.left) ∙ ap S (sym s.named.left) ∙ left)
        (sym (polygon_name homes k s.chain.right) ∙ ap S (sym s.named.right) ∙ sym same ∙ left)

    pub alone : (c : ℕ) (chain : MapChain) → slice_get chains c ≡ Some chain → tells homes k chain ≡ false → ¬ IsOnChain chain.points r
    alone c chain is untold on = go (is_border homes chain) refl
      where
        by_inner : IsInner homes chain → ⊥
        by_inner i =
            let lt : i.k < n = below_by homes n i.k chain.left (parts.known c chain is).left i.left in
            let here : IsCountAt chains r (is_of homes i.k) (pos 1) = within_counts r i.k lt (inside r off_border i.k) c chain is i.left on in
            let seen : (side : Side) × HasCounts border r side = counted border parts.border_good r off_border in
            let own_one : is_polygon k seen.0 ≡ true =
            number_one (is_polygon k seen.0) (one_count border r (is_polygon k) (number_of (is_polygon k seen.0)) (pos 1) (seen.1 (is_polygon k) refl) ((border_counts k r (pos 1)).1 one)) in
            let other_one : is_polygon i.k seen.0 ≡ true =
            number_one (is_polygon i.k seen.0) (one_count border r (is_polygon i.k) (number_of (is_polygon i.k seen.0)) (pos 1) (seen.1 (is_polygon i.k) refl) ((border_counts i.k r (pos 1)).1 here)) in
            let same : i.k ≡ k = one_polygon_of i.k k seen.0 other_one own_one in
            false≢true (sym untold ∙ tells_left homes k chain (subst (λ j. is_of homes j chain.left ≡ true) same i.left))

        go : (b : Bool) → is_border homes chain ≡ b → ⊥
        go true e = on_border r off_border c chain is e on
        go false e = by_inner (inner homes chain e)
