use Rattle.std.proofs.Common.{◌≡◌, ◌≢◌, ℕ, zero, suc, ◌<◌, Bool, true, false, cond, List, [], ◌∷◌, length, get_or, refl, sym, ap, ◌∙◌, arith, add-one}
use Rattle.std.specs.List.{dedup_from}
use Rattle.std.proofs.lemmas.Cmp.{int_eq_equiv}
use Rattle.tl_geom.specs.declared.point.Point.{Point}
use Rattle.tl_record.specs.Joining.{same_point}
use Rattle.tl_map_county.specs.Chains.{IsProperChain}
use Rattle.tl_map_rules.specs.Keeping.Pairs.{dedup_after}
use Rattle.tl_map_rules.proofs.PairLemmas.{dedup_from-is}

same_point-refl : (p : Point) → same_point p p ≡ true
same_point-refl p = rw (int_eq_equiv.refl p.x) (int_eq_equiv.refl p.y)

-- each point that dedup leaves differs from the one before
differs : (p : Point) (qs : List Point) (k : ℕ) (d : Point) → k < length (dedup_after p qs) → get_or (p ∷ dedup_after p qs) k d ≢ get_or (dedup_after p qs) k d
differs p [] k d lt = absurd (omega arith)
differs p (q ∷ qs) k d lt = go (same_point q p) refl (differs p qs) (differs q qs) k lt
  where
    go : (b : Bool) → same_point q p ≡ b → ((j : ℕ) (e : Point) → j < length (dedup_after p qs) → get_or (p ∷ dedup_after p qs) j e ≢ get_or (dedup_after p qs) j e) → ((j : ℕ) (e : Point) → j < length (dedup_after q qs) → get_or (q ∷ dedup_after q qs) j e ≢ get_or (dedup_after q qs) j e) → (j : ℕ) → j < length (cond b (dedup_after p qs) (q ∷ dedup_after q qs)) → get_or (p ∷ cond b (dedup_after p qs) (q ∷ dedup_after q qs)) j d ≢ get_or (cond b (dedup_after p qs) (q ∷ dedup_after q qs)) j d
    go true e here next j low = here j d low
    go false e here next zero low = λ same. absurd (let h : same_point q p ≡ true = rw same (same_point-refl q) in let f : false ≡ true = sym e ∙ h in cc)
    go false e here next (suc j) low = next j d (omega arith)

-- what dedup leaves, where it isn't one point
pub proper_dedup : (p : Point) (qs : List Point) → length (dedup_from same_point p qs) ≢ 1 → IsProperChain (dedup_from same_point p qs)
proper_dedup p qs several =
    let is = dedup_from-is p qs in
    rw is (record {
      several = let h = ap length is in omega (arith, several, h);
      distinct = λ k d lt. rw (add-one k) (differs p qs k d (omega arith));
    })
