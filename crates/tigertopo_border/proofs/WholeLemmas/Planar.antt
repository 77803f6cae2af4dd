-- Where parts are sound, and the border between them is, joined chains are planar.
use Rattle.std.proofs.Common.{◌≡◌, ◌≢◌, ⊎_elim, ℕ, ◌<◌, Bool, true, false, not, Some, List, slice_get, refl, sym, ap, subst, ◌∙◌}
use Rattle.std.proofs.lemmas.Bool.{false≢true}
use Rattle.tl_geom.specs.declared.rational.Rational.{Rational}
use Rattle.tl_map_county.specs.declared.sides.Side.{Side}
use Rattle.tl_map_county.specs.TheMap.{MapChain}
use Rattle.tl_check_planar.specs.Planar.{IsOnChain, IsChainEnd, IsPlanar, IsSimple, ShareEndsAlone}
use Rattle.tl_check_planar.specs.Keeping.Apart.{one_found}
use Rattle.tl_check_faces.specs.Clear.{IsOffBoundary}
use Rattle.tigertopo_border.specs.Whole.Told.{AreTold}
use Rattle.tigertopo_border.specs.Whole.Homes.{Homes, is_of, own, tells, name, is_border}
use Rattle.tigertopo_border.proofs.WholeLemmas.Told.{place, IsToldAs, told_as}
use Rattle.tigertopo_border.proofs.WholeLemmas.Deciding.{IsMet, met_or}
use Rattle.tigertopo_border.proofs.WholeLemmas.Names.{tells_left, tells_right, border_of, IsInner, inner, IsToldBy, some_part, below_by, untold_inner}
use Rattle.tigertopo_border.proofs.WholeLemmas.Fitting.{AreParts, within_counts, alone}

-- two chains that are told together share their ends alone
pub told_together : (names : Side → Side) (told : MapChain → Bool) (chains others : List MapChain) → AreTold names told chains others → IsPlanar others →
    (c d : ℕ) (one other : MapChain) → c ≢ d → slice_get chains c ≡ Some one → slice_get chains d ≡ Some other → told one ≡ true → told other ≡ true →
    ShareEndsAlone one.points other.points
told_together names told chains others are planar c d one other ne is is' t t' =
    let a : IsToldAs names told chains others one c = told_as names told chains others are c one is t in
    let b : IsToldAs names told chains others other d = told_as names told chains others are d other is' t' in
    subst (λ p. ShareEndsAlone p other.points) a.named.points
    (subst (ShareEndsAlone a.one.points) b.named.points
    (planar.apart a.place_of b.place_of a.one b.one
    (λ e. ne (sym a.at ∙ ap (place names told chains) e ∙ b.at)) a.is b.is))

-- the test whether a chain is of the boundary of a part
abbrev parts_sides : (s t : Bool) → Bool
parts_sides true t = not t
parts_sides false t = t

differ_of : (s t : Bool) → parts_sides s t ≡ true → s ≢ t
differ_of true true e f = false≢true e
differ_of true false e f = false≢true (sym f)
differ_of false true e f = false≢true f
differ_of false false e f = false≢true e

of_differ : (s t : Bool) → s ≢ t → parts_sides s t ≡ true
of_differ true true ne = absurd (ne refl)
of_differ true false ne = refl
of_differ false true ne = refl
of_differ false false ne = absurd (ne refl)

module _ (homes : Homes) (n : ℕ) (chains border : List MapChain) (parts : AreParts homes n chains border) where
  abbrev bounds : ℕ → MapChain → Bool
  bounds k c = parts_sides (is_of homes k c.left) (is_of homes k c.right)

  in_part : (k : ℕ) → k < n → (c d : ℕ) (one other : MapChain) → c ≢ d → slice_get chains c ≡ Some one → slice_get chains d ≡ Some other →
      tells homes k one ≡ true → tells homes k other ≡ true → ShareEndsAlone one.points other.points
  in_part k lt = told_together (own homes k) (tells homes k) chains (parts.part k lt) (parts.told k lt) (parts.good k lt).planar

  in_border : (c d : ℕ) (one other : MapChain) → c ≢ d → slice_get chains c ≡ Some one → slice_get chains d ≡ Some other →
      is_border homes one ≡ true → is_border homes other ≡ true → ShareEndsAlone one.points other.points
  in_border = told_together (name homes) (is_border homes) chains border parts.border_told parts.border_good.planar

  -- a chain of a part's border
  record IsBounding (k : ℕ) (r : Rational) : Type 0 where
    c : ℕ
    chain : MapChain
    is : slice_get chains c ≡ Some chain
    on : IsOnChain chain.points r
    of_border : is_border homes chain ≡ true
    told : tells homes k chain ≡ true

  told_of : (k : ℕ) (c : MapChain) → is_of homes k c.left ≢ is_of homes k c.right → tells homes k c ≡ true
  told_of k c ne = go (is_of homes k c.left) (is_of homes k c.right) refl refl
    where
      go : (s t : Bool) → is_of homes k c.left ≡ s → is_of homes k c.right ≡ t → tells homes k c ≡ true
      go true t e f = tells_left homes k c e
      go false true e f = tells_right homes k c f
      go false false e f = absurd (ne (e ∙ sym f))

  -- where a chain inside a part shares a place with one of another, a chain of the part's border runs there
  bounding : (r : Rational) (c d : ℕ) (one other : MapChain) (i : IsInner homes one) → slice_get chains c ≡ Some one → slice_get chains d ≡ Some other →
      tells homes i.k other ≡ false → IsOnChain one.points r → IsOnChain other.points r → IsBounding i.k r
  bounding r c d one other i is is' untold on on' =
      ⊎_elim
      (λ (m : IsMet (bounds i.k) chains r).
      let ne = differ_of (is_of homes i.k m.chain.left) (is_of homes i.k m.chain.right) m.passes in
      record { c = m.c; chain = m.chain; is = m.is; on = m.on; of_border = border_of homes i.k m.chain ne; told = told_of i.k m.chain ne })
      (λ missed.
      let off : IsOffBoundary chains (is_of homes i.k) r =
      λ e chain is ne on. missed e chain is (of_differ (is_of homes i.k chain.left) (is_of homes i.k chain.right) ne) on in
      absurd (alone homes n chains border parts i.k r off
      (within_counts homes n chains border parts r i.k (below_by homes n i.k one.left (parts.known c one is).left i.left) off c one is i.left on)
      d other is' untold on'))
      (met_or (bounds i.k) r chains)

  never_one : (t : MapChain → Bool) (c d : ℕ) (one other : MapChain) → slice_get chains c ≡ Some one → slice_get chains d ≡ Some other → t one ≡ true → t other ≡ false → c ≢ d
  never_one t c d one other is is' a b e =
      let same : one ≡ other = one_found one other (slice_get chains d) (subst (λ m. slice_get chains m ≡ Some one) e is) is' in
      false≢true (sym b ∙ ap t (sym same) ∙ a)

  -- so it is an end of the chain inside
  inner_end : (r : Rational) (c d : ℕ) (one other : MapChain) → is_border homes one ≡ false → (i : IsInner homes one) → slice_get chains c ≡ Some one → slice_get chains d ≡ Some other →
      tells homes i.k other ≡ false → IsOnChain one.points r → IsOnChain other.points r → IsChainEnd one.points r
  inner_end r c d one other no_border i is is' untold on on' =
      let b : IsBounding i.k r = bounding r c d one other i is is' untold on on' in
      (in_part i.k (below_by homes n i.k one.left (parts.known c one is).left i.left) c b.c one b.chain
      (λ e. never_one (is_border homes) b.c c b.chain one b.is is b.of_border no_border (sym e)) is b.is
      (tells_left homes i.k one i.left) b.told r on b.on).0

  -- and of one of the border
  border_end : (r : Rational) (c d : ℕ) (one other : MapChain) → is_border homes one ≡ false → (i : IsInner homes one) → slice_get chains c ≡ Some one → slice_get chains d ≡ Some other →
      is_border homes other ≡ true → tells homes i.k other ≡ false → IsOnChain one.points r → IsOnChain other.points r → IsChainEnd other.points r
  border_end r c d one other no_border i is is' of_border untold on on' =
      let b : IsBounding i.k r = bounding r c d one other i is is' untold on on' in
      (in_border b.c d b.chain other (never_one (tells homes i.k) b.c d b.chain other b.is is' b.told untold) b.is is' b.of_border of_border r b.on on').1

  by_inner : (c d : ℕ) (one other : MapChain) → is_border homes one ≡ false → c ≢ d → slice_get chains c ≡ Some one → slice_get chains d ≡ Some other → ShareEndsAlone one.points other.points
  by_inner c d one other no_border ne is is' r on on' = go (tells homes i.k other) refl
    where
      i : IsInner homes one
      i = inner homes one no_border

      last : (b : Bool) → is_border homes other ≡ b → tells homes i.k other ≡ false → IsChainEnd other.points r
      last true e untold = border_end r c d one other no_border i is is' e untold on on'
      last false e untold =
          let j : IsInner homes other = inner homes other e in
          let differ : i.k ≢ j.k = λ same. false≢true (sym untold ∙ tells_left homes i.k other (subst (λ k. is_of homes k other.left ≡ true) (sym same) j.left)) in
          inner_end r d c other one e j is' is (untold_inner homes i.k j.k one differ i.left i.right) on' on

      go : (b : Bool) → tells homes i.k other ≡ b → IsChainEnd one.points r × IsChainEnd other.points r
      go true e = in_part i.k (below_by homes n i.k one.left (parts.known c one is).left i.left) c d one other ne is is' (tells_left homes i.k one i.left) e r on on'
      go false e = (inner_end r c d one other no_border i is is' e on on', last (is_border homes other) refl e)

  apart_by : (a b : Bool) (c d : ℕ) (one other : MapChain) → is_border homes one ≡ a → is_border homes other ≡ b → c ≢ d →
      slice_get chains c ≡ Some one → slice_get chains d ≡ Some other → ShareEndsAlone one.points other.points
  apart_by true true c d one other e f ne is is' = in_border c d one other ne is is' e f
  apart_by false b c d one other e f ne is is' = by_inner c d one other e ne is is'
  apart_by true false c d one other e f ne is is' = λ r on on'.
      let h = by_inner d c other one f (λ same. ne (sym same)) is' is r on' on in (h.1, h.0)

  pub joined_planar : IsPlanar chains
  joined_planar = record {
    apart = λ c d one other ne is is'. apart_by (is_border homes one) (is_border homes other) c d one other refl refl ne is is';
    simple = λ c chain is.
        let p : IsToldBy homes n chain = some_part homes n chain (parts.known c chain is) in
        let s : IsToldAs (own homes p.k) (tells homes p.k) chains (parts.part p.k p.below) chain c =
        told_as (own homes p.k) (tells homes p.k) chains (parts.part p.k p.below) (parts.told p.k p.below) c chain is p.told in
        subst IsSimple s.named.points ((parts.good p.k p.below).planar.simple s.place_of s.one s.is);
  }
