use Rattle.std.proofs.Common.{◌≡◌, ℕ, ◌+◌, ◌-◌, ◌<◌, ◌≤◌, inl, inr, Some, List, [], length, map, get_or, All, refl, ap, arith}
use Rattle.std.specs.Prelude.{slice_get}
use Rattle.std.proofs.lemmas.Bool.{cases_lt}
use Rattle.std.proofs.lemmas.List.{get_or_default}
use Rattle.std.proofs.lemmas.List.Sums.{sum_by_more}
use Rattle.tl_geom.specs.declared.point.Point.{Point}
use Rattle.tl_map_county.specs.Chains.{CompleteChain, IsProperChain}
use Rattle.tl_map_county.specs.Keeping.Numbered.{NumberUpTo}
use Rattle.tl_map_county.proofs.PlaceLemmas.{slice_get-image}

-- the segments of one chain more
pub number_more : (cs : List CompleteChain) (n : ℕ) (d : CompleteChain) (of new : List ℕ) (count : ℕ) → n < length cs → count ≡ length (get_or cs n d).points - 1 → length new ≡ length of + count → ((k e : ℕ) → k < length of → get_or new k e ≡ get_or of k e) → ((k e : ℕ) → length of ≤ k → k < length new → get_or new k e ≡ n) → NumberUpTo cs n of → NumberUpTo cs (n + 1) new
number_more cs n d of new count lt many long front back before = record {
  count = omega (arith, long, before.count, many, sum_by_more (λ (c : CompleteChain). length c.points - 1) cs n d lt);
  each = λ s low. elim (cases_lt s (length of)) [
    | inl earlier ↦
        let was = before.each s earlier in
        (was.0, rw (front s 0 earlier) (record { chain = omega (arith, was.1.chain); place = was.1.place; number = was.1.number }))
    | inr later ↦ (
      s - length of,
      rw (back s 0 later low) (record {
        chain = omega arith;
        place = λ e. rw (get_or_default cs n e d lt) (omega (arith, long, many));
        number = omega (arith, before.count);
      }),
    )
  ];
}

-- the points of a chain, as a look-up gives them
pub points_told : (cs : List CompleteChain) (n : ℕ) (ps : List Point) → n < length cs → slice_get (map (λ (c : CompleteChain). c.points) cs) n ≡ Some ps → (d : CompleteChain) → (get_or cs n d).points ≡ ps
points_told cs n ps lt points d = let two = slice_get-image (λ (x : CompleteChain). x.points) cs n d lt in cc

-- a chain that a look-up gives has points
pub several_told : (cs : List CompleteChain) (n : ℕ) (ps : List Point) → n < length cs → slice_get (map (λ (c : CompleteChain). c.points) cs) n ≡ Some ps → All (λ (c : CompleteChain). IsProperChain c.points) cs → 2 ≤ length ps
several_told cs n ps lt points all =
    let d : CompleteChain = record { tlid = 0; points = [] } in
    let proper : IsProperChain (get_or cs n d).points = all n d lt in
    omega (arith, proper.several, ap length (points_told cs n ps lt points d))

-- no segment is numbered before the first chain
pub number_none : (cs : List CompleteChain) (of : List ℕ) → of ≡ [] → NumberUpTo cs 0 of
number_none cs of none = rw none (record {
  count = refl;
  each = λ s lt. absurd (omega (arith, lt));
})
