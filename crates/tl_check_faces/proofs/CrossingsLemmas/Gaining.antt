-- Where along each chain of the boundary of such sides two tests of going up differ by a weight of its points, what all chains add by
-- the one is what they add by the other.
use Rattle.std.proofs.Common.{◌≡◌, ◌≢◌, ℕ, suc, ◌+◌, pos, ◌-ℤ◌, Bool, true, false, Some, List, [], ◌∷◌, refl, sym, ◌∙◌, arith}
use Rattle.std.specs.Prelude.{slice_get}
use Rattle.std.proofs.lemmas.Int.{ints}
use Rattle.tl_geom.specs.declared.point.Point.{Point}
use Rattle.tl_map_county.specs.declared.sides.Side.{Side}
use Rattle.tl_map_county.specs.TheMap.{MapChain}
use Rattle.tl_check_sides.specs.Sides.{SidesAgree}
use Rattle.tl_check_faces.specs.Crossings.Headings.{AreProper, HeadApart}
use Rattle.tl_check_faces.proofs.CrossingsLemmas.Telescoping.{bit, last_of, weight, ends, left_ends, right_ends}
use Rattle.tl_check_faces.proofs.CrossingsLemmas.Cancelling.{as_much}
use Rattle.tl_check_faces.proofs.CrossingsLemmas.Signed.{weigh, adds, adds_from, adds_along, all_add}

module _ (up other : Point → Point → Bool) (has : Point → Bool) where
  -- what the segments from each point to the next add by the one test, less what they add by the other, is what the weight gains
  abbrev pub AreGaining : List Point → Type 0
  AreGaining points =
      (k : ℕ) (a b : Point) → slice_get points k ≡ Some a → slice_get points (suc k) ≡ Some b →
      adds up a b -ℤ adds other a b ≡ pos (bit (has b)) -ℤ pos (bit (has a))

  gains_from : (a : Point) (points : List Point) → AreGaining (a ∷ points) →
      adds_from up a points -ℤ adds_from other a points ≡ pos (bit (has (last_of a points))) -ℤ pos (bit (has a))
  unfolding last_of
  gains_from a [] gain = omega (arith, ints)
  gains_from a (b ∷ points) gain =
      let here = gain 0 a b refl refl in
      let rest = gains_from b points (λ k c d e f. gain (suc k) c d e f) in
      omega (arith, ints, here, rest)

  module _ (S : Side → Bool) where
    counts : (p : Point) (s : Side) → S s ≡ true → weight has S p s ≡ bit (has p)
    counts p s e = rw e refl

    counts_nothing : (p : Point) (s : Side) → S s ≡ false → weight has S p s ≡ 0
    counts_nothing p s e = go (has p) refl
      where
        go : (t : Bool) → has p ≡ t → weight has S p s ≡ 0
        go true f = rw (f, e) refl
        go false f = rw f refl

    -- a chain
    chain_gains : (points : List Point) (left right : Side) → (S left ≢ S right → AreGaining points) →
        weigh (S left) (S right) (adds_along up points) -ℤ weigh (S left) (S right) (adds_along other points) ≡
        pos (ends has S points right left) -ℤ pos (ends has S points left right)
    unfolding ends
    chain_gains [] left right gain = nothing (S left) (S right)
      where
        nothing : (l r : Bool) → weigh l r (pos 0) -ℤ weigh l r (pos 0) ≡ pos 0 -ℤ pos 0
        nothing true true = refl
        nothing true false = refl
        nothing false true = refl
        nothing false false = refl
    chain_gains (a ∷ points) left right gain = go (S left) (S right) refl refl
      where
        last : Point
        last = last_of a points

        go : (l r : Bool) → S left ≡ l → S right ≡ r →
            weigh (S left) (S right) (adds_from up a points) -ℤ weigh (S left) (S right) (adds_from other a points) ≡
            pos (weight has S a right + weight has S last left) -ℤ pos (weight has S a left + weight has S last right)
        go true true e f =
            let i = counts a left e in let j = counts a right f in let k = counts last left e in let l = counts last right f in
            rw (i, j, k, l, e, f) (omega (arith, ints))
        go true false e f =
            let i = counts a left e in let j = counts_nothing a right f in let k = counts last left e in let l = counts_nothing last right f in
            let all = gains_from a points (gain (λ same. apart (sym e ∙ same ∙ f))) in
            rw (i, j, k, l, e, f) (omega (arith, ints, all))
          where
            apart : true ≡ false → ⊥
            apart p = cc
        go false true e f =
            let i = counts_nothing a left e in let j = counts a right f in let k = counts_nothing last left e in let l = counts last right f in
            let all = gains_from a points (gain (λ same. apart (sym e ∙ same ∙ f))) in
            rw (i, j, k, l, e, f) (omega (arith, ints, all))
          where
            apart : false ≡ true → ⊥
            apart p = cc
        go false false e f =
            let i = counts_nothing a left e in let j = counts_nothing a right f in let k = counts_nothing last left e in let l = counts_nothing last right f in
            rw (i, j, k, l, e, f) (omega (arith, ints))

    -- each chain of the boundary gains so
    abbrev pub AreAllGaining : List MapChain → Type 0
    AreAllGaining chains = (c : ℕ) (chain : MapChain) → slice_get chains c ≡ Some chain → S chain.left ≢ S chain.right → AreGaining chain.points

    all_gain : (chains : List MapChain) → AreAllGaining chains →
        all_add up S chains -ℤ all_add other S chains ≡ pos (right_ends has S chains) -ℤ pos (left_ends has S chains)
    unfolding left_ends right_ends
    all_gain [] gain = omega (arith, ints)
    all_gain (c ∷ chains) gain =
        let here = chain_gains c.points c.left c.right (gain 0 c refl) in
        let rest = all_gain chains (λ k chain is. gain (suc k) chain is) in
        omega (arith, ints, here, rest)

    -- as much is gained as lost where sides agree
    pub no_gain : (chains : List MapChain) → AreProper chains → HeadApart chains → SidesAgree chains → AreAllGaining chains →
        all_add up S chains ≡ all_add other S chains
    no_gain chains proper apart agree gain =
        let all = all_gain chains gain in
        let both = as_much chains proper apart agree has S in
        omega (arith, ints, all, both)
