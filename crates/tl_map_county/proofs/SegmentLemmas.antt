use Rattle.std.proofs.Common.{◌≡◌, ℕ, zero, suc, ◌+◌, ◌-◌, ◌<◌, Some, None, List, [], ◌∷◌, length, take, get_or, pos, refl, sym, ap, ◌∙◌, arith}
use Rattle.std.proofs.lemmas.Option.{slice_get-get_or}
use Rattle.std.proofs.lemmas.List.{get_or_default, take_all}
use Rattle.std.proofs.lemmas.List.Sums.{sum_by-cons}
use Rattle.tl_geom.specs.declared.point.Point.{Point}
use Rattle.tl_geom.specs.declared.segment.Segment.{Segment}
use Rattle.tl_map_county.specs.declared.sides.ChainSides.{ChainSides}
use Rattle.tl_map_county.specs.declared.sides.Side.TheVariants.{Outside}
use Rattle.tl_map_county.specs.Chains.{CompleteChain, segment_count}
use Rattle.tl_map_county.specs.TheMap.{MapChain}
use Rattle.tl_map_county.specs.Segments.{segments_before, IsSegmentOf, Joins}
use Rattle.tl_map_county.specs.Rows.{with_sides, sided}
use Rattle.tl_map_county.specs.Keeping.Numbered.{IsNumber, NumberUpTo, JoinsPoints}
use Rattle.tl_map_county.proofs.MapLemmas.{length-sided, slice_get-sided}

-- as many segments with sides as without
pub before_sided : (cs : List CompleteChain) (ss : List ChainSides) (n : ℕ) → length ss ≡ length cs → segments_before (sided cs ss) n ≡ segment_count (take n cs)
before_sided cs ss zero same = refl
before_sided [] ss (suc n) same = refl
before_sided (c ∷ cs) [] (suc n) same = absurd (omega arith)
before_sided (c ∷ cs) (s ∷ ss) (suc n) same =
    let rest = before_sided cs ss n (omega arith) in
    omega (arith, rest, sum_by-cons (λ (x : MapChain). length x.points - 1) (with_sides c s) (take n (sided cs ss)), sum_by-cons (λ (x : CompleteChain). length x.points - 1) c (take n cs))

pub whole_sided : (cs : List CompleteChain) (ss : List ChainSides) → length ss ≡ length cs → segments_before (sided cs ss) (length (sided cs ss)) ≡ segment_count cs
whole_sided cs ss same = before_sided cs ss (length (sided cs ss)) same ∙ ap segment_count (take_all (length (sided cs ss)) cs (let h = length-sided cs ss same in omega arith))

-- the number of a segment, with sides
pub segment_of : (cs : List CompleteChain) (ss : List ChainSides) (s c k : ℕ) → length ss ≡ length cs → IsNumber cs (length cs) s c k → IsSegmentOf (sided cs ss) s c k
segment_of cs ss s c k same number =
    let d : CompleteChain = record { tlid = 0; points = [] } in
    let e : ChainSides = record { left = Outside; right = Outside; start_cell = None; end_cell = None } in
    record {
      chain = with_sides (get_or cs c d) (get_or ss c e);
      is = slice_get-sided cs ss c _ _ (slice_get-get_or cs c d number.chain) (slice_get-get_or ss c e (omega (arith, number.chain)));
      place = number.place d;
      number = number.number ∙ ap (λ n. n + k) (sym (before_sided cs ss c same));
    }

-- the chain that the list gives
pub numbered : (cs : List CompleteChain) (of : List ℕ) (s c : ℕ) → NumberUpTo cs (length cs) of → s < length of → c ≡ get_or of s c → (k : ℕ) × IsNumber cs (length cs) s c k
numbered cs of s c up lt at =
    let same : get_or of s 0 ≡ c = get_or_default of s 0 c lt ∙ sym at in
    let found = up.each s lt in
    (found.0, rw same at found.1)

-- there are as many numbers as segments
pub all_numbered : (cs : List CompleteChain) (ss : List ChainSides) (of : List ℕ) → length ss ≡ length cs → NumberUpTo cs (length cs) of → length of ≡ segments_before (sided cs ss) (length (sided cs ss))
all_numbered cs ss of same up = up.count ∙ ap segment_count (take_all (length cs) cs (omega arith)) ∙ sym (whole_sided cs ss same)

-- a segment of a chain's points
pub joins : (cs : List CompleteChain) (ss : List ChainSides) (s c k : ℕ) (segment : Segment) → length ss ≡ length cs → IsNumber cs (length cs) s c k → JoinsPoints cs c k segment → Joins (sided cs ss) c k segment
joins cs ss s c k segment same number between =
    let x : CompleteChain = record { tlid = 0; points = [] } in
    let e : ChainSides = record { left = Outside; right = Outside; start_cell = None; end_cell = None } in
    let p : Point = record { x = pos 0; y = pos 0 } in
    record {
      chain = with_sides (get_or cs c x) (get_or ss c e);
      is = slice_get-sided cs ss c _ _ (slice_get-get_or cs c x number.chain) (slice_get-get_or ss c e (omega (arith, number.chain)));
      from = slice_get-get_or (get_or cs c x).points k p (omega (arith, number.place x)) ∙ ap Some (between.from x p);
      to = slice_get-get_or (get_or cs c x).points (k + 1) p (number.place x) ∙ ap Some (between.to x p);
    }
