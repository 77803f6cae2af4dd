-- Where the chains that are told stand among all.
use Rattle.std.proofs.Common.{inl, inr, ◌≡◌, ⊎_elim, ℕ, zero, suc, Bool, true, false, Some, List, [], ◌∷◌, refl, sym, ap, subst, ◌∙◌, arith}
use Rattle.std.specs.Prelude.{slice_get, if◌then◌else◌}
use Rattle.std.proofs.lemmas.Bool.{false≢true}
use Rattle.tl_geom.specs.declared.rational.Rational.{Rational}
use Rattle.tl_map_county.specs.declared.sides.Side.{Side}
use Rattle.tl_map_county.specs.Chains.{IsProperChain}
use Rattle.tl_map_county.specs.TheMap.{MapChain}
use Rattle.tl_check_planar.specs.Planar.{IsOnChain, IsPlanar, IsSimple, ShareEndsAlone}
use Rattle.tl_check_planar.specs.Keeping.Apart.{one_found}
use Rattle.tl_check_faces.specs.Facing.{IsOff}
use Rattle.tl_check_faces.specs.Clear.{IsOffBoundary}
use Rattle.tl_check_faces.specs.Crossings.Headings.{AreProper}
use Rattle.tigertopo_border.specs.Whole.Told.{IsNamed, AreTold}

-- some chains of any map can be told so
pub can_be_told : (names : Side → Side) (told : MapChain → Bool) (chains : List MapChain) → (others : List MapChain) × AreTold names told chains others
can_be_told names told [] = ([], refl)
can_be_told names told (c ∷ chains) = go (told c) refl (can_be_told names told chains)
  where
    named : MapChain
    named = record { tlid = c.tlid; points = c.points; left = names c.left; right = names c.right; start_cell = c.start_cell; end_cell = c.end_cell }

    left_out : (others : List MapChain) → told c ≡ false → AreTold names told chains others → AreTold names told (c ∷ chains) others
    left_out [] e are = (e, are)
    left_out (o ∷ others) e are = inr (e, are)

    go : (b : Bool) → told c ≡ b → (others : List MapChain) × AreTold names told chains others → (others : List MapChain) × AreTold names told (c ∷ chains) others
    go true e (others, are) = (named ∷ others, inl (e, (record { tlid = refl; points = refl; left = refl; right = refl }, are)))
    go false e (others, are) = (others, left_out others e are)

module _ (names : Side → Side) (told : MapChain → Bool) where
  -- the place among all chains of the one that is told at a place
  abbrev pub place : List MapChain → ℕ → ℕ
  place [] c = c
  place (w ∷ chains) zero = if told w then zero else suc (place chains zero)
  place (w ∷ chains) (suc c) = if told w then suc (place chains c) else suc (place chains (suc c))

  at_first : (w : MapChain) (chains : List MapChain) → told w ≡ true → place (w ∷ chains) zero ≡ zero
  at_first w chains e = rw e refl

  at_next : (w : MapChain) (chains : List MapChain) (c : ℕ) → told w ≡ true → place (w ∷ chains) (suc c) ≡ suc (place chains c)
  at_next w chains c e = rw e refl

  at_other : (w : MapChain) (chains : List MapChain) (c : ℕ) → told w ≡ false → place (w ∷ chains) c ≡ suc (place chains c)
  at_other w chains zero e = rw e refl
  at_other w chains (suc c) e = rw e refl

  -- no two are at one place
  pub one_place : (chains : List MapChain) (c d : ℕ) → place chains c ≡ place chains d → c ≡ d
  one_place [] c d e = e
  one_place (w ∷ chains) c d e = go (one_place chains) (told w) refl c d e
    where
      go : ((c d : ℕ) → place chains c ≡ place chains d → c ≡ d) → (t : Bool) → told w ≡ t → (c d : ℕ) → place (w ∷ chains) c ≡ place (w ∷ chains) d → c ≡ d
      go rest true f zero zero e = refl
      go rest true f zero (suc d) e = let a = at_first w chains f in let b = at_next w chains d f in absurd (omega (arith, a, b, e))
      go rest true f (suc c) zero e = let a = at_first w chains f in let b = at_next w chains c f in absurd (omega (arith, a, b, e))
      go rest true f (suc c) (suc d) e =
          let a = at_next w chains c f in let b = at_next w chains d f in ap suc (rest c d (omega (arith, a, b, e)))
      go rest false f c d e = let a = at_other w chains c f in let b = at_other w chains d f in rest c d (omega (arith, a, b, e))

  -- the chain that is told as this one stands at that place
  pub record StandsAt (chains : List MapChain) (one : MapChain) (d : ℕ) : Type 0 where
    pub chain : MapChain
    pub is : slice_get chains d ≡ Some chain
    pub told_is : told chain ≡ true
    pub named : IsNamed names chain one

  later : (w : MapChain) (chains : List MapChain) (one : MapChain) (d e : ℕ) → e ≡ suc d → StandsAt chains one d → StandsAt (w ∷ chains) one e
  later w chains one d e same s = record { chain = s.chain; is = ap (slice_get (w ∷ chains)) same ∙ s.is; told_is = s.told_is; named = s.named }

  pub there : (chains others : List MapChain) → AreTold names told chains others → (c : ℕ) (one : MapChain) → slice_get others c ≡ Some one → StandsAt chains one (place chains c)
  there [] others are c one is = absurd (none others are c is)
    where
      none : (others : List MapChain) → others ≡ [] → (c : ℕ) → slice_get others c ≡ Some one → ⊥
      none others e c is = let f : slice_get [] c ≡ Some one = ap (λ l. slice_get l c) (sym e) ∙ is in cc
  there (w ∷ chains) [] are c one is = absurd (cc)
  there (w ∷ chains) (o ∷ others) are zero one is =
      ⊎_elim
      (λ t. record {
        chain = w;
        is = ap (slice_get (w ∷ chains)) (at_first w chains t.0);
        told_is = t.0;
        named = subst (IsNamed names w) (one_found o one (Some o) refl is) t.1.0;
      })
      (λ t. later w chains one (place chains zero) (place (w ∷ chains) zero) (at_other w chains zero t.0) (there chains (o ∷ others) t.1 zero one is))
      are
  there (w ∷ chains) (o ∷ others) are (suc c) one is =
      ⊎_elim
      (λ t. later w chains one (place chains c) (place (w ∷ chains) (suc c)) (at_next w chains c t.0) (there chains others t.1.1 c one is))
      (λ t. later w chains one (place chains (suc c)) (place (w ∷ chains) (suc c)) (at_other w chains (suc c) t.0) (there chains (o ∷ others) t.1 (suc c) one is))
      are

  -- each chain that is told is told as one
  pub record IsToldAs (chains others : List MapChain) (chain : MapChain) (d : ℕ) : Type 0 where
    pub place_of : ℕ
    pub one : MapChain
    pub is : slice_get others place_of ≡ Some one
    pub named : IsNamed names chain one
    pub at : place chains place_of ≡ d

  pub told_as : (chains others : List MapChain) → AreTold names told chains others → (d : ℕ) (chain : MapChain) → slice_get chains d ≡ Some chain → told chain ≡ true → IsToldAs chains others chain d
  told_as [] others are d chain is t = absurd (cc)
  told_as (w ∷ chains) [] are zero chain is t =
      absurd (false≢true (sym are.0 ∙ ap told (one_found w chain (Some w) refl is) ∙ t))
  told_as (w ∷ chains) [] are (suc d) chain is t =
      let s : IsToldAs chains [] chain d = told_as chains [] are.1 d chain is t in
      record { place_of = s.place_of; one = s.one; is = s.is; named = s.named; at = at_other w chains s.place_of are.0 ∙ ap suc s.at }
  told_as (w ∷ chains) (o ∷ others) are zero chain is t =
      let same : w ≡ chain = one_found w chain (Some w) refl is in
      ⊎_elim
      (λ u. record { place_of = zero; one = o; is = refl; named = subst (λ z. IsNamed names z o) same u.1.0; at = at_first w chains u.0 })
      (λ u. absurd (false≢true (sym u.0 ∙ ap told same ∙ t)))
      are
  told_as (w ∷ chains) (o ∷ others) are (suc d) chain is t =
      ⊎_elim
      (λ u.
      let s : IsToldAs chains others chain d = told_as chains others u.1.1 d chain is t in
      record { place_of = suc s.place_of; one = s.one; is = s.is; named = s.named; at = at_next w chains s.place_of u.0 ∙ ap suc s.at })
      (λ u.
      let s : IsToldAs chains (o ∷ others) chain d = told_as chains (o ∷ others) u.1 d chain is t in
      record { place_of = s.place_of; one = s.one; is = s.is; named = s.named; at = at_other w chains s.place_of u.0 ∙ ap suc s.at })
      are

  -- ---- so what holds of all chains holds of those that are told

  module _ (chains others : List MapChain) (are : AreTold names told chains others) where
    pub proper : AreProper chains → AreProper others
    proper all c one is =
        let s : StandsAt chains one (place chains c) = there chains others are c one is in
        subst IsProperChain (sym s.named.points) (all (place chains c) s.chain s.is)

    pub planar : IsPlanar chains → IsPlanar others
    planar all = record {
      apart = λ c d one other ne is is'.
          let s : StandsAt chains one (place chains c) = there chains others are c one is in
          let t : StandsAt chains other (place chains d) = there chains others are d other is' in
          subst (λ p. ShareEndsAlone p other.points) (sym s.named.points)
          (subst (ShareEndsAlone s.chain.points) (sym t.named.points)
          (all.apart (place chains c) (place chains d) s.chain t.chain (λ e. ne (one_place chains c d e)) s.is t.is));
      simple = λ c one is.
          let s : StandsAt chains one (place chains c) = there chains others are c one is in
          subst IsSimple (sym s.named.points) (all.simple (place chains c) s.chain s.is);
    }

    pub off : (r : Rational) → IsOff chains r → IsOff others r
    off r all c one is on =
        let s : StandsAt chains one (place chains c) = there chains others are c one is in
        all (place chains c) s.chain s.is (subst (λ p. IsOnChain p r) s.named.points on)

    -- the boundary of sides is that of the sides that have such a name, where no chain of it is left out
    module _ (S : Side → Bool) where
      pub off_boundary : (r : Rational) → IsOffBoundary chains (λ s. S (names s)) r → IsOffBoundary others S r
      off_boundary r all c one is differ on =
          let s : StandsAt chains one (place chains c) = there chains others are c one is in
          all (place chains c) s.chain s.is
          (λ e. differ (ap S s.named.left ∙ e ∙ ap S (sym s.named.right)))
          (subst (λ p. IsOnChain p r) s.named.points on)

      pub off_boundary_back : ((c : ℕ) (chain : MapChain) → slice_get chains c ≡ Some chain → told chain ≡ false → S (names chain.left) ≡ S (names chain.right)) →
          (r : Rational) → IsOffBoundary others S r → IsOffBoundary chains (λ s. S (names s)) r
      off_boundary_back passed r all d chain is differ on = go (told chain) refl
        where
          go : (t : Bool) → told chain ≡ t → ⊥
          go true t =
              let s : IsToldAs chains others chain d = told_as chains others are d chain is t in
              all s.place_of s.one s.is (λ e. differ (ap S (sym s.named.left) ∙ e ∙ ap S s.named.right)) (subst (λ p. IsOnChain p r) (sym s.named.points) on)
          go false t = differ (passed d chain is t)
