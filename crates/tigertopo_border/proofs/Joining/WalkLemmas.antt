-- Chains that rise are told where each one has its own.
use Rattle.std.proofs.Common.{◌≡◌, ℕ, zero, suc, Bool, true, List, [], ◌∷◌, map, get_or, Some, sym, ap, subst, ◌∙◌, arith}
use Rattle.std.specs.Prelude.{slice_get}
use Rattle.std.specs.List.Sorted.{IsStrictlyIncreasing}
use Rattle.std.proofs.lemmas.List.{length-map}
use Rattle.std.proofs.lemmas.Option.{slice_get_within}
use Rattle.tl_map_county.specs.Chains.{CompleteChain, tlids}
use Rattle.tl_map_county.specs.declared.sides.Side.{Side}
use Rattle.tl_map_county.specs.TheMap.{MapChain}
use Rattle.tl_map_rules.specs.MapOf.{without_sides}
use Rattle.tl_map_rules.proofs.KnownLemmas.{far}
use Rattle.tigertopo_border.specs.Whole.Told.{IsNamed, AreTold}
use Rattle.tigertopo_border.specs.Whole.Borders.{AreTlidsRising}
use Rattle.tigertopo_border.proofs.WholeLemmas.Matching.{one_of_tlid, told_by}
use Rattle.tigertopo_border.proofs.Joining.InLemmas.{In, placed, from_place}

tlid_at : (chains : List MapChain) (c : ℕ) (chain : MapChain) → slice_get chains c ≡ Some chain → get_or (tlids (map without_sides chains)) c 0 ≡ chain.tlid
tlid_at [] c chain is = absurd (cc)
tlid_at (d ∷ chains) zero chain is = let same : d ≡ chain = cc in ap (λ (x : MapChain). x.tlid) same
tlid_at (d ∷ chains) (suc c) chain is = tlid_at chains c chain is

-- the chains of a map rise
pub rising_chains : (chains : List MapChain) → IsStrictlyIncreasing (tlids (map without_sides chains)) → AreTlidsRising chains
rising_chains chains up c d one other before is there =
    let within = slice_get_within chains d other there in
    let long = length-map (map without_sides chains) (λ (x : CompleteChain). x.tlid) in
    omega (arith, far (tlids (map without_sides chains)) up c d before (omega (arith, within, long, length-map chains without_sides)), tlid_at chains c one is, tlid_at chains d other there)

-- chains of one TLID are one
pub same_chain : (chains : List MapChain) → AreTlidsRising chains → (one other : MapChain) → In one chains → In other chains → one.tlid ≡ other.tlid → one ≡ other
same_chain chains rising one other here there same =
    let p = placed chains one here in
    let q = placed chains other there in
    one_of_tlid chains rising p.0 q.0 one other p.1 q.1 same

-- one of these has the TLID
pub record HasTlid (os : List MapChain) (t : ℕ) : Type 0 where
  pub one : MapChain
  pub has : In one os
  pub tlid : one.tlid ≡ t

module _ (names : Side → Side) (told : MapChain → Bool) where
  -- one of the chains is told, and named as this one
  pub record HasNamed (cs : List MapChain) (o : MapChain) : Type 0 where
    pub chain : MapChain
    pub has : In chain cs
    pub told_is : told chain ≡ true
    pub named : IsNamed names chain o

  pub told_from : (cs os : List MapChain) → AreTlidsRising cs → AreTlidsRising os → ((o : MapChain) → In o os → HasNamed cs o) → ((c : MapChain) → In c cs → told c ≡ true → HasTlid os c.tlid) → AreTold names told cs os
  told_from cs os rising rising_too have need =
      told_by names told cs os rising rising_too
      (λ c chain is told_is.
      let wanted = need chain (from_place cs c chain is) told_is in
      let found = have wanted.one wanted.has in
      let there = placed os wanted.one wanted.has in
      let same : found.chain ≡ chain = same_chain cs rising found.chain chain found.has (from_place cs c chain is) (sym found.named.tlid ∙ wanted.tlid) in
      record { place = there.0; one = wanted.one; is = there.1; named = subst (λ d. IsNamed names d wanted.one) same found.named })
      (λ c one is.
      let found = have one (from_place os c one is) in
      let there = placed cs found.chain found.has in
      record { place = there.0; chain = found.chain; is = there.1; told_is = found.told_is; named = found.named })
