-- The counts at a point of chains that are parted in two: what both parts tell together tells the counts of all.
use Rattle.std.proofs.Common.{◌≡◌, ℕ, zero, suc, ◌≤◌, ℤ, ◌+ℤ◌, Bool, true, false, List, [], ◌∷◌, ◌++◌, length, map, refl, subst, ◌∙◌, arith}
use Rattle.std.specs.Prelude.{not, if◌then◌else◌}
use Rattle.std.proofs.lemmas.Int.{ints}
use Rattle.std.proofs.lemmas.List.Sums.{sum_by-append}
use Rattle.std.proofs.lemmas.Option.{same_Some}
use Rattle.tl_geom.specs.declared.point.Point.{Point}
use Rattle.tl_map_county.specs.declared.sides.Side.{Side}
use Rattle.tl_map_county.specs.Chains.{IsProperChain}
use Rattle.tl_map_county.specs.TheMap.{MapChain}
use Rattle.tl_map_county.specs.Remaining.{remaining}
use Rattle.tl_check_inside.specs.declared.flanks.Flanks.{Flanks}
use Rattle.tl_check_inside.specs.Inside.{balance, IsCount}
use Rattle.tl_check_inside.specs.Keeping.Tallies.{TellCounts}
use Rattle.tl_check_inside.specs.Places.{IsHeldBy, IsOffChains}
use Rattle.tl_check_faces.specs.Crossings.Headings.{AreProper}
use Rattle.tl_check_faces.proofs.CrossingsLemmas.Rays.{counted}
use Rattle.tl_check_faces.proofs.CrossingsLemmas.Weighed.{chains_weight, balance_is}

-- the marks the other way round
abbrev pub others : List Bool → List Bool
others marks = map not marks

-- ---- what the chains add

module _ (q : Point) (S : Side → Bool) where
  parted_weight : (marks : List Bool) (chains : List MapChain) → length chains ≤ length marks
      → chains_weight q S chains ≡ chains_weight q S (remaining marks chains) +ℤ chains_weight q S (remaining (others marks) chains)
  parted_weight marks [] few = refl
  parted_weight [] (c ∷ chains) few = absurd (omega (arith, few))
  parted_weight (true ∷ marks) (c ∷ chains) few = let rest = parted_weight marks chains (omega (arith, few)) in omega (arith, ints, rest)
  parted_weight (false ∷ marks) (c ∷ chains) few = let rest = parted_weight marks chains (omega (arith, few)) in omega (arith, ints, rest)

-- ---- the parts are proper

proper_head : (c : MapChain) (chains : List MapChain) → AreProper (c ∷ chains) → IsProperChain c.points
proper_head c chains proper = proper 0 c refl

proper_tail : (c : MapChain) (chains : List MapChain) → AreProper (c ∷ chains) → AreProper chains
proper_tail c chains proper k chain is = proper (suc k) chain is

proper_more : (c : MapChain) (chains : List MapChain) → IsProperChain c.points → AreProper chains → AreProper (c ∷ chains)
proper_more c chains one proper zero chain is = subst (λ (x : MapChain). IsProperChain x.points) (same_Some c chain is) one
proper_more c chains one proper (suc k) chain is = proper k chain is

pub proper_part : (marks : List Bool) (chains : List MapChain) → AreProper chains → AreProper (remaining marks chains)
proper_part marks [] proper = proper
proper_part [] (c ∷ chains) proper = proper_more c (remaining [] chains) (proper_head c chains proper) (proper_part [] chains (proper_tail c chains proper))
proper_part (true ∷ marks) (c ∷ chains) proper = proper_part marks chains (proper_tail c chains proper)
proper_part (false ∷ marks) (c ∷ chains) proper = proper_more c (remaining marks chains) (proper_head c chains proper) (proper_part marks chains (proper_tail c chains proper))

-- ---- a point on no chain of either part

held_later : (x : MapChain) (chains : List MapChain) (q : Point) (c : ℕ) → IsHeldBy chains q c → IsHeldBy (x ∷ chains) q (suc c)
held_later x chains q c held = record { chain = held.chain; is = held.is; on = held.on }

off_tail : (x : MapChain) (chains : List MapChain) (q : Point) → IsOffChains (x ∷ chains) q → IsOffChains chains q
off_tail x chains q off c held = off (suc c) (held_later x chains q c held)

off_more : (x : MapChain) (chains : List MapChain) (q : Point) → ¬ IsHeldBy (x ∷ []) q 0 → IsOffChains chains q → IsOffChains (x ∷ chains) q
off_more x chains q head off zero held = head (record { chain = held.chain; is = held.is; on = held.on })
off_more x chains q head off (suc c) held = off c (record { chain = held.chain; is = held.is; on = held.on })

off_head : (x : MapChain) (chains : List MapChain) (q : Point) → IsOffChains (x ∷ chains) q → ¬ IsHeldBy (x ∷ []) q 0
off_head x chains q off held = off 0 (record { chain = held.chain; is = held.is; on = held.on })

pub off_both : (marks : List Bool) (chains : List MapChain) (q : Point) → length chains ≤ length marks
    → IsOffChains (remaining marks chains) q → IsOffChains (remaining (others marks) chains) q → IsOffChains chains q
off_both marks [] q few rest taken = rest
off_both [] (x ∷ chains) q few rest taken = absurd (omega (arith, few))
off_both (true ∷ marks) (x ∷ chains) q few rest taken =
    off_more x chains q (off_head x (remaining (others marks) chains) q taken)
    (off_both marks chains q (omega (arith, few)) rest (off_tail x (remaining (others marks) chains) q taken))
off_both (false ∷ marks) (x ∷ chains) q few rest taken =
    off_more x chains q (off_head x (remaining marks chains) q rest)
    (off_both marks chains q (omega (arith, few)) (off_tail x (remaining marks chains) q rest) taken)

-- ---- what flanks tell

balance_both : (S : Side → Bool) (one other : List Flanks) → balance S (one ++ other) ≡ balance S one +ℤ balance S other
balance_both S one other =
    let near = sum_by-append (λ (f : Flanks). if S f.near then 1 else 0) one other in
    let far = sum_by-append (λ (f : Flanks). if S f.far then 1 else 0) one other in
    omega (arith, ints, near, far)

told_weight : (chains : List MapChain) (q : Point) (S : Side → Bool) (n : ℤ) → AreProper chains → IsCount chains q S n → n ≡ chains_weight q S chains
told_weight chains q S n proper c = c.counted ∙ balance_is chains proper q c.crossed c.are S

-- so the flanks of both parts tell the counts of all chains
pub tell_both : (marks : List Bool) (chains : List MapChain) (q : Point) (one other : List Flanks) → AreProper chains → length chains ≤ length marks
    → TellCounts (remaining marks chains) q one → TellCounts (remaining (others marks) chains) q other → TellCounts chains q (one ++ other)
tell_both marks chains q one other proper few first second S none =
    let whole = counted chains q S proper in
    let all : whole.0 ≡ chains_weight q S chains = told_weight chains q S whole.0 proper whole.1 in
    let rest : balance S one ≡ chains_weight q S (remaining marks chains) = told_weight (remaining marks chains) q S (balance S one) (proper_part marks chains proper) (first S none) in
    let taken : balance S other ≡ chains_weight q S (remaining (others marks) chains) =
    told_weight (remaining (others marks) chains) q S (balance S other) (proper_part (others marks) chains proper) (second S none) in
    let parts = parted_weight q S marks chains few in
    let both = balance_both S one other in
    subst (λ z. IsCount chains q S z) (let is : whole.0 ≡ balance S (one ++ other) = omega (arith, ints, all, rest, taken, parts, both) in is) whole.1

-- and in the other order
pub tell_turned : (marks : List Bool) (chains : List MapChain) (q : Point) (one other : List Flanks) → AreProper chains → length chains ≤ length marks
    → TellCounts (remaining marks chains) q one → TellCounts (remaining (others marks) chains) q other → TellCounts chains q (other ++ one)
tell_turned marks chains q one other proper few first second S none =
    let is : balance S (one ++ other) ≡ balance S (other ++ one) =
    let here = balance_both S one other in
    let there = balance_both S other one in
    omega (arith, ints, here, there) in
    subst (λ z. IsCount chains q S z) is (tell_both marks chains q one other proper few first second S none)
