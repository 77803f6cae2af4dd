-- What is counted over the chains that are told is what is counted over all, by the names.
use Rattle.std.proofs.Common.{◌≡◌, ◌↔◌, ⊎_elim, ℕ, suc, ℤ, pos, Bool, true, false, Some, slice_get, List, [], ◌∷◌, refl, sym, ap, ◌∙◌, arith}
use Rattle.std.proofs.lemmas.Int.{ints}
use Rattle.tl_geom.specs.declared.point.Point.{Point}
use Rattle.tl_geom.specs.declared.rational.Rational.{Rational}
use Rattle.tl_map_county.specs.declared.sides.Side.{Side}
use Rattle.tl_map_county.specs.TheMap.{MapChain}
use Rattle.tl_check_inside.specs.Inside.{IsCountAt}
use Rattle.tl_check_faces.specs.Crossings.Headings.{AreProper}
use Rattle.tl_check_faces.proofs.CrossingsLemmas.Signed.{weigh, adds_along, all_add}
use Rattle.tl_check_faces.proofs.Upward.{goes_up}
use Rattle.tl_check_faces.proofs.Staying.{count_is, is_count}
use Rattle.tigertopo_border.specs.Whole.Told.{IsNamed, AreTold}
use Rattle.tigertopo_border.proofs.WholeLemmas.Told.{proper}

weigh_same : (b : Bool) (n : ℤ) → weigh b b n ≡ pos 0
weigh_same true n = omega (arith, ints)
weigh_same false n = refl

-- sides that no chain has count nothing
module _ (up : Point → Point → Bool) (S : Side → Bool) where
  pub nothing_added : (chains : List MapChain) → ((c : ℕ) (chain : MapChain) → slice_get chains c ≡ Some chain → S chain.left ≡ S chain.right) → all_add up S chains ≡ pos 0
  nothing_added [] none = refl
  nothing_added (c ∷ chains) none =
      let here : weigh (S c.left) (S c.right) (adds_along up c.points) ≡ pos 0 =
      ap (λ b. weigh b (S c.right) (adds_along up c.points)) (none 0 c refl) ∙ weigh_same (S c.right) (adds_along up c.points) in
      let rest = nothing_added chains (λ d chain is. none (suc d) chain is) in
      omega (arith, ints, here, rest)

pub no_count : (chains : List MapChain) → AreProper chains → (q : Rational) (S : Side → Bool) →
    ((c : ℕ) (chain : MapChain) → slice_get chains c ≡ Some chain → S chain.left ≡ S chain.right) → IsCountAt chains q S (pos 0)
no_count chains proper q S none = is_count chains proper q S (pos 0) (sym (nothing_added (goes_up q) S chains none))

module _ (names : Side → Side) (told : MapChain → Bool) (passed : (chain : MapChain) → told chain ≡ false → names chain.left ≡ names chain.right) where
  module _ (up : Point → Point → Bool) (S : Side → Bool) where
    by_name : Side → Bool
    by_name s = S (names s)

    untold : (c : MapChain) → told c ≡ false → weigh (by_name c.left) (by_name c.right) (adds_along up c.points) ≡ pos 0
    unfolding by_name
    untold c e = ap (λ s. weigh (S s) (S (names c.right)) (adds_along up c.points)) (passed c e) ∙ weigh_same (S (names c.right)) (adds_along up c.points)

    one_adds : (c o : MapChain) → IsNamed names c o → weigh (S o.left) (S o.right) (adds_along up o.points) ≡ weigh (by_name c.left) (by_name c.right) (adds_along up c.points)
    unfolding by_name
    one_adds c o n = λ i. weigh (S (n.left i)) (S (n.right i)) (adds_along up (n.points i))

    adds_same : (chains others : List MapChain) → AreTold names told chains others → all_add up S others ≡ all_add up by_name chains
    adds_same [] others e = ap (all_add up S) e
    adds_same (c ∷ chains) [] t = let here = untold c t.0 in let rest = adds_same chains [] t.1 in omega (arith, ints, here, rest)
    adds_same (c ∷ chains) (o ∷ others) t =
        ⊎_elim
        (λ u. let here = one_adds c o u.1.0 in let rest = adds_same chains others u.1.1 in omega (arith, ints, here, rest))
        (λ u. let here = untold c u.0 in let rest = adds_same chains (o ∷ others) u.1 in omega (arith, ints, here, rest))
        t

    pub adds : (chains others : List MapChain) → AreTold names told chains others → all_add up S others ≡ all_add up (λ s. S (names s)) chains
    unfolding by_name
    adds chains others t = adds_same chains others t

  pub counts : (chains others : List MapChain) → AreTold names told chains others → AreProper chains → (q : Rational) (S : Side → Bool) (n : ℤ) →
      IsCountAt others q S n ↔ IsCountAt chains q (λ s. S (names s)) n
  counts chains others are all q S n =
      let same = adds (goes_up q) S chains others are in
      let some : AreProper others = proper names told chains others are all in (
        λ k. is_count chains all q (λ s. S (names s)) n (count_is others some q S n k ∙ same),
        λ k. is_count others some q S n (count_is chains all q (λ s. S (names s)) n k ∙ sym same),
      )
