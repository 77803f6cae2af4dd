-- The lowest chain that holds a point, by the segments that hold it.
use Rattle.std.proofs.Common.{◌≡◌, ℕ, suc, ◌+◌, ◌<◌, ◌≤◌, inl, inr, List, [], ◌∷◌, ◌++◌, length, sym, subst, ap, ◌∙◌, refl, arith}
use Rattle.std.specs.Prelude.{slice_index}
use Rattle.std.proofs.lemmas.Bool.{cases_lt, cases_order}
use Rattle.std.proofs.lemmas.Option.{slice_get_within}
use Rattle.tl_geom.specs.declared.point.Point.{Point}
use Rattle.tl_geom.specs.declared.segment.Segment.{Segment}
use Rattle.tl_geom.specs.Plane.{IsOn, whole}
use Rattle.tl_map_county.specs.TheMap.{MapChain}
use Rattle.tl_map_county.specs.Segments.{segments_before, IsSegmentOf, Joins}
use Rattle.tl_tree_index.specs.Hits.{times, AreHits, Adds}
use Rattle.tl_tree_index.proofs.Marks.{times-at}
use Rattle.tl_tree_index.proofs.Times.{times-other}
use Rattle.tl_check_planar.proofs.Numbering.{in_order, below_total, one_chain}
use Rattle.tl_check_inside.specs.Places.{IsHeldBy, IsLowestOn, IsOffChains}
use Rattle.tl_check_inside.specs.Keeping.Listed.{IsLeastOf}
use Rattle.tl_check_inside.specs.Keeping.Probing.{IsHolding}

-- a number that stands in a list stands at some place
pub record IsAt (xs : List ℕ) (x : ℕ) : Type 0 where
  pub place : ℕ
  pub within : place < length xs
  pub is : slice_index xs place ≡ x

pub place_of : (x : ℕ) (xs : List ℕ) → 1 ≤ times x xs → IsAt xs x
place_of x [] h = absurd (let no : 1 ≤ 0 = h in omega (arith, no))
place_of x (y ∷ xs) h = elim (cases_order x y) [
  | inl same ↦ record { place = 0; within = omega arith; is = sym same }
  | inr other ↦
      let r = place_of x xs (let e = times-other x y xs (λ e. elim other [ inl lt ↦ omega (arith, lt, e) | inr gt ↦ omega (arith, gt, e) ]) in omega (arith, e, h)) in
      record { place = suc r.place; within = omega (arith, r.within); is = r.is }
]

-- what is added to no hits are the hits
pub hits_of : (items chains : List MapChain) (q : Point) (old new slice : List ℕ) → Adds (segments_before items (length items)) (IsHolding items q) old new → items ≡ chains → old ≡ [] → slice ≡ new → AreHits (segments_before chains (length chains)) (IsHolding chains q) slice
hits_of items chains q old new slice adds same none is =
    subst (λ cs. AreHits (segments_before cs (length cs)) (IsHolding cs q) slice) same
    (subst (AreHits (segments_before items (length items)) (IsHolding items q)) (sym (is ∙ adds.appended ∙ ap (λ xs. xs ++ adds.found) none)) adds.hits)

-- a chain that holds the point has a segment that does
pub record HasHolder (chains : List MapChain) (q : Point) (d : ℕ) : Type 0 where
  pub s : ℕ
  pub j : ℕ
  pub number : IsSegmentOf chains s d j
  pub holding : IsHolding chains q s

pub holder_of : (chains : List MapChain) (q : Point) (d : ℕ) → IsHeldBy chains q d → HasHolder chains q d
holder_of chains q d h =
    let on = h.on.1 in
    let j : ℕ = h.on.0 in
    let number : IsSegmentOf chains (segments_before chains d + j) d j = record { chain = h.chain; is = h.is; place = slice_get_within h.chain.points (j + 1) on.segment.b on.to; number = refl } in
    record {
      s = segments_before chains d + j;
      j = j;
      number = number;
      holding = record { c = d; k = j; segment = on.segment; number = number; joins = record { chain = h.chain; is = h.is; from = on.from; to = on.to }; on = on.on };
    }

module _ (chains : List MapChain) (q : Point) (hits : List ℕ) (a : AreHits (segments_before chains (length chains)) (IsHolding chains q) hits) where
  -- and it is hit
  record HasHit (d : ℕ) : Type 0 where
    s : ℕ
    j : ℕ
    number : IsSegmentOf chains s d j
    at : IsAt hits s

  hit_of : (d : ℕ) → IsHeldBy chains q d → HasHit d
  hit_of d h =
      let holder = holder_of chains q d h in
      let once = a.once holder.s (below_total chains holder.s d holder.j holder.number) holder.holding in
      record { s = holder.s; j = holder.j; number = holder.number; at = place_of holder.s hits (omega (arith, once)) }

  pub none_held : length hits ≡ 0 → IsOffChains chains q
  none_held empty d h = let w = (hit_of d h).at.within in omega (arith, w, empty)

  pub listed_below : (k : ℕ) → k < length hits → slice_index hits k < segments_before chains (length chains)
  listed_below k lt = elim (cases_lt (slice_index hits k) (segments_before chains (length chains))) [
    | inl below ↦ below
    | inr past ↦ let no = a.known (slice_index hits k) past in let some = times-at hits k lt in absurd (omega (arith, no, some))
  ]

  pub least_below : (s : ℕ) → IsLeastOf hits (length hits) s → s < segments_before chains (length chains)
  least_below s least = let below = listed_below least.place least.within in omega (arith, below, least.is)

  pub is_hit : (s : ℕ) → IsLeastOf hits (length hits) s → ¬ IsHolding chains q s → ⊥
  is_hit s least not = let no = a.others s not in let some = times-at hits least.place least.within in let same = ap (λ x. times x hits) least.is in omega (arith, no, some, same)

  pub lowest : (s c k d j : ℕ) (segment : Segment) → IsLeastOf hits (length hits) s → IsSegmentOf chains s c k → IsSegmentOf chains s d j → Joins chains d j segment → IsOn segment (whole q) → IsLowestOn chains q c
  lowest s c k d j segment least number other joins on = record {
    held = subst (IsHeldBy chains q) (one_chain chains s d j c k other number) (record { chain = joins.chain; is = joins.is; on = (j, record { segment = segment; from = joins.from; to = joins.to; on = on }) });
    lowest = λ e below h.
        let hit = hit_of e h in
        let up = least.least hit.at.place hit.at.within in
        let order = in_order chains hit.s s e hit.j c k hit.number number below in
        omega (arith, up, order, hit.at.is);
  }
