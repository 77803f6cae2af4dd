-- The numbers of segments: those of an earlier chain come first, and a number is of one segment alone.
use Rattle.std.proofs.Common.{◌≡◌, ⊎_elim, ℕ, zero, suc, ◌+◌, ◌-◌, ◌<◌, ◌≤◌, Some, List, [], ◌∷◌, length, take, refl, ap, ◌∙◌, arith}
use Rattle.std.specs.Prelude.{slice_get}
use Rattle.std.proofs.lemmas.Bool.{cases_order}
use Rattle.std.proofs.lemmas.Option.{slice_get_within}
use Rattle.std.proofs.lemmas.List.Sums.{sum_by-cons}
use Rattle.tl_geom.specs.declared.segment.Segment.{Segment}
use Rattle.tl_map_county.specs.TheMap.{MapChain}
use Rattle.tl_map_county.specs.Segments.{segments_before, IsSegmentOf, Joins}
use Rattle.tl_check_planar.specs.Keeping.Apart.{one_found}

-- a chain's segments come before those of the later chains
pub before_later : (cs : List MapChain) (c n : ℕ) (x : MapChain) → slice_get cs c ≡ Some x → c < n → segments_before cs c + (length x.points - 1) ≤ segments_before cs n
before_later [] c n x e lt = absurd (cc)
before_later (y ∷ cs) zero zero x e lt = absurd (omega arith)
before_later (y ∷ cs) zero (suc n) x e lt =
    let same : length y.points - 1 ≡ length x.points - 1 = ap (λ (z : MapChain). length z.points - 1) (one_found y x (Some y) refl e) in
    omega (arith, same, sum_by-cons (λ (z : MapChain). length z.points - 1) y (take n cs))
before_later (y ∷ cs) (suc c) zero x e lt = absurd (omega arith)
before_later (y ∷ cs) (suc c) (suc n) x e lt =
    let rest = before_later cs c n x e (omega arith) in
    omega (arith, rest, sum_by-cons (λ (z : MapChain). length z.points - 1) y (take c cs), sum_by-cons (λ (z : MapChain). length z.points - 1) y (take n cs))

pub in_order : (cs : List MapChain) (s t c i d j : ℕ) → IsSegmentOf cs s c i → IsSegmentOf cs t d j → c < d → s < t
in_order cs s t c i d j first second lt =
    let later = before_later cs c d first.chain first.is lt in
    omega (arith, later, first.place, first.number, second.number)

pub below_total : (cs : List MapChain) (s c i : ℕ) → IsSegmentOf cs s c i → s < segments_before cs (length cs)
below_total cs s c i k =
    let later = before_later cs c (length cs) k.chain k.is (slice_get_within cs c k.chain k.is) in
    omega (arith, later, k.place, k.number)

pub one_chain : (cs : List MapChain) (s c i d j : ℕ) → IsSegmentOf cs s c i → IsSegmentOf cs s d j → c ≡ d
one_chain cs s c i d j first second =
    ⊎_elim (λ e. e)
    (λ w. ⊎_elim (λ lt. absurd (let h : s < s = in_order cs s s c i d j first second lt in omega arith))
    (λ lt. absurd (let h : s < s = in_order cs s s d j c i second first lt in omega arith)) w)
    (cases_order c d)

pub one_place : (cs : List MapChain) (s c i d j : ℕ) → IsSegmentOf cs s c i → IsSegmentOf cs s d j → i ≡ j
one_place cs s c i d j first second =
    let same : segments_before cs c ≡ segments_before cs d = ap (λ n. segments_before cs n) (one_chain cs s c i d j first second) in
    omega (arith, same, first.number, second.number)

-- two segments of one number have the same ends
pub record HaveSameEnds (one other : Segment) : Type 0 where
  pub first : one.a ≡ other.a
  pub last : one.b ≡ other.b

pub same_ends : (chains : List MapChain) (s c k d j : ℕ) (one other : Segment) → IsSegmentOf chains s c k → Joins chains c k one → IsSegmentOf chains s d j → Joins chains d j other → HaveSameEnds one other
same_ends chains s c k d j one other n joins m others =
    let chain : c ≡ d = one_chain chains s c k d j n m in
    let place : k ≡ j = one_place chains s c k d j n m in
    let same : joins.chain ≡ others.chain = one_found joins.chain others.chain (slice_get chains c) joins.is (ap (λ i. slice_get chains i) chain ∙ others.is) in
    record {
      first = one_found one.a other.a (slice_get joins.chain.points k) joins.from ((λ i. slice_get (same i).points (place i)) ∙ others.from);
      last = one_found one.b other.b (slice_get joins.chain.points (k + 1)) joins.to ((λ i. slice_get (same i).points (place i + 1)) ∙ others.to);
    }
