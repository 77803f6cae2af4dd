-- Two lists of chains by rising TLID, of which each chain that is told has its own in the other, and each of the other has one.
use Rattle.std.proofs.Common.{◌≡◌, inl, inr, ⊎_elim, ℕ, zero, suc, ◌<◌, Bool, true, false, Some, List, [], ◌∷◌, slice_get, refl, sym, ap, subst, ◌∙◌, arith}
use Rattle.std.proofs.lemmas.Bool.{false≢true, cases_order}
use Rattle.tl_map_county.specs.declared.sides.Side.{Side}
use Rattle.tl_map_county.specs.TheMap.{MapChain}
use Rattle.tl_check_planar.specs.Keeping.Apart.{one_found}
use Rattle.tigertopo_border.specs.Whole.Told.{IsNamed, AreTold}
use Rattle.tigertopo_border.specs.Whole.Borders.{AreTlidsRising}

-- a TLID is of one chain
pub one_of_tlid : (chains : List MapChain) → AreTlidsRising chains → (c d : ℕ) (one other : MapChain) → slice_get chains c ≡ Some one → slice_get chains d ≡ Some other →
    one.tlid ≡ other.tlid → one ≡ other
one_of_tlid chains rising c d one other is is' e =
    ⊎_elim (λ same. one_found one other (slice_get chains d) (subst (λ m. slice_get chains m ≡ Some one) same is) is')
    (⊎_elim (λ lt. absurd (let k = rising c d one other lt is is' in omega (arith, k, e))) (λ lt. absurd (let k = rising d c other one lt is' is in omega (arith, k, e))))
    (cases_order c d)

module _ (names : Side → Side) (told : MapChain → Bool) where
  pub record IsFound (others : List MapChain) (chain : MapChain) : Type 0 where
    pub place : ℕ
    pub one : MapChain
    pub is : slice_get others place ≡ Some one
    pub named : IsNamed names chain one

  pub record IsSource (chains : List MapChain) (one : MapChain) : Type 0 where
    pub place : ℕ
    pub chain : MapChain
    pub is : slice_get chains place ≡ Some chain
    pub told_is : told chain ≡ true
    pub named : IsNamed names chain one

  abbrev AllFound : (chains others : List MapChain) → Type 0
  AllFound chains others = (c : ℕ) (chain : MapChain) → slice_get chains c ≡ Some chain → told chain ≡ true → IsFound others chain

  abbrev AllSources : (chains others : List MapChain) → Type 0
  AllSources chains others = (c : ℕ) (one : MapChain) → slice_get others c ≡ Some one → IsSource chains one

  rising_rest : (c : MapChain) (chains : List MapChain) → AreTlidsRising (c ∷ chains) → AreTlidsRising chains
  rising_rest c chains rising d e one other lt is is' = rising (suc d) (suc e) one other (omega (arith, lt)) is is'

  past_first : (c : MapChain) (chains : List MapChain) → AreTlidsRising (c ∷ chains) → (d : ℕ) (one : MapChain) → slice_get chains d ≡ Some one → c.tlid < one.tlid
  past_first c chains rising d one is = rising zero (suc d) c one (omega arith) refl is

  -- the first of both is one
  first_is : (c o : MapChain) (chains others : List MapChain) → AreTlidsRising (c ∷ chains) → AreTlidsRising (o ∷ others) → IsFound (o ∷ others) c → IsSource (c ∷ chains) o → IsNamed names c o
  first_is c o chains others rising rising' f s = go f.place f.is
    where
      no_less : (d : ℕ) → slice_get (c ∷ chains) d ≡ Some s.chain → o.tlid < c.tlid → ⊥
      no_less zero is lt =
          let e : c.tlid ≡ s.chain.tlid = ap (λ (z : MapChain). z.tlid) (one_found c s.chain (Some c) refl is) in let g = s.named.tlid in omega (arith, e, g, lt)
      no_less (suc d) is lt = let k = past_first c chains rising d s.chain is in let g = s.named.tlid in omega (arith, k, g, lt)

      go : (e : ℕ) → slice_get (o ∷ others) e ≡ Some f.one → IsNamed names c o
      go zero is = subst (IsNamed names c) (sym (one_found o f.one (Some o) refl is)) f.named
      go (suc e) is =
          absurd (no_less s.place s.is (let k = past_first o others rising' e f.one is in let g = f.named.tlid in omega (arith, k, g)))

  found_rest : (o : MapChain) (others : List MapChain) (chain : MapChain) → ¬ (o.tlid ≡ chain.tlid) → IsFound (o ∷ others) chain → IsFound others chain
  found_rest o others chain ne f = go f.place f.is
    where
      go : (e : ℕ) → slice_get (o ∷ others) e ≡ Some f.one → IsFound others chain
      go zero is = absurd (ne (ap (λ (z : MapChain). z.tlid) (one_found o f.one (Some o) refl is) ∙ f.named.tlid))
      go (suc e) is = record { place = e; one = f.one; is = is; named = f.named }

  source_rest : (c : MapChain) (chains : List MapChain) (one : MapChain) → ((chain : MapChain) → c ≡ chain → told chain ≡ true → IsNamed names chain one → ⊥) → IsSource (c ∷ chains) one → IsSource chains one
  source_rest c chains one never s = go s.place s.is
    where
      go : (d : ℕ) → slice_get (c ∷ chains) d ≡ Some s.chain → IsSource chains one
      go zero is = absurd (never s.chain (one_found c s.chain (Some c) refl is) s.told_is s.named)
      go (suc d) is = record { place = d; chain = s.chain; is = is; told_is = s.told_is; named = s.named }

  no_source : (one : MapChain) → IsSource [] one → ⊥
  no_source one s = let is = s.is in cc

  no_found : (chain : MapChain) → IsFound [] chain → ⊥
  no_found chain f = let is = f.is in cc

  pub told_by : (chains others : List MapChain) → AreTlidsRising chains → AreTlidsRising others → AllFound chains others → AllSources chains others → AreTold names told chains others
  told_by [] [] rising rising' found sources = refl
  told_by [] (o ∷ others) rising rising' found sources = absurd (no_source o (sources zero o refl))
  told_by (c ∷ chains) [] rising rising' found sources =
      (only (told c) refl, told_by chains [] (rising_rest c chains rising) rising' (λ d chain is t. found (suc d) chain is t) (λ d one is. absurd (cc)))
    where
      only : (b : Bool) → told c ≡ b → told c ≡ false
      only true e = absurd (no_found c (found zero c refl e))
      only false e = e
  told_by (c ∷ chains) (o ∷ others) rising rising' found sources =
      go (told_by chains others (rising_rest c chains rising) (rising_rest o others rising'))
      (told_by chains (o ∷ others) (rising_rest c chains rising) rising') (told c) refl
    where
      go : (AllFound chains others → AllSources chains others → AreTold names told chains others) →
          (AllFound chains (o ∷ others) → AllSources chains (o ∷ others) → AreTold names told chains (o ∷ others)) →
          (b : Bool) → told c ≡ b → AreTold names told (c ∷ chains) (o ∷ others)
      go both one true e = inl (
        e,
        (
          here,
          both
              (λ d chain is t. found_rest o others chain (λ f. let k = past_first c chains rising d chain is in let g = here.tlid in omega (arith, k, f, g)) (found (suc d) chain is t))
              (λ d other is. source_rest c chains other
              (λ chain same t named.
              let k = past_first o others rising' d other is in let g = here.tlid in let h = named.tlid in
              let i : c.tlid ≡ chain.tlid = ap (λ (z : MapChain). z.tlid) same in omega (arith, k, g, h, i))
              (sources (suc d) other is)),
        ),
      )
        where
          here : IsNamed names c o
          here = first_is c o chains others rising rising' (found zero c refl e) (sources zero o refl)
      go both one false e = inr (
        e,
        one
            (λ d chain is t. found (suc d) chain is t)
            (λ d other is. source_rest c chains other (λ chain same t named. false≢true (sym e ∙ ap told same ∙ t)) (sources d other is)),
      )
