-- Chains whose sides name no hidden polygon, put together one by one.
use Rattle.std.proofs.Common.{◌≡◌, ℕ, ◌+◌, ◌-◌, ◌<◌, ◌≤◌, ◌^◌, Some, sum_by, List, [], ◌∷◌, ◌++◌, length, get_or, take, refl, sym, ap, subst, ◌∙◌, arith}
use Rattle.std.specs.Prelude.{slice_get}
use Rattle.std.proofs.lemmas.List.{length-map, length_push, take_all, take_more}
use Rattle.std.proofs.lemmas.List.Elements.{All-nil, All-push}
use Rattle.std.proofs.lemmas.List.Sums.{sum_by_more, sum_by_push, sum_by-take-le}
use Rattle.std.proofs.lemmas.Option.{get_or_from_slice_get, slice_get_within}
use Rattle.tl_geom.specs.declared.point.Point.{Point}
use Rattle.tl_map_county.specs.declared.chains.ChainRow.{ChainRow}
use Rattle.tl_map_county.specs.declared.sides.ChainSides.{ChainSides}
use Rattle.tl_map_county.specs.declared.sides.Side.{Side}
use Rattle.tl_map_county.specs.Chains.{CompleteChain, IsProperChain, segment_count}
use Rattle.tl_map_county.specs.Rows.{chain_in, chains_in, with_sides, sided}
use Rattle.tl_map_county.specs.Segments.{segments_before}
use Rattle.tl_map_county.specs.Sides.{IsSideAmong, AreSidesAmong}
use Rattle.tl_map_county.specs.Kept.{HasNumber}
use Rattle.tl_map_county.specs.TheMap.{TheMap, MapChain, IsChain}
use Rattle.tl_map_county.specs.Keeping.Remaining.{IsOneMore}
use Rattle.tl_map_county.proofs.RemainingLemmas.{sided_push, has_number}
use Rattle.tl_map_county.proofs.TableLemmas.{IsTable-nil}
use Rattle.tl_check_inside.specs.Inside.{is_polygon}
use Rattle.tl_check_points.specs.Listing.Hidden.{NameAlike, AreAlikeChains, AreAlikeBut, AreMapsAlikeBut}
use Rattle.tl_check_points.specs.Listing.Keeping.Hiding.{ArePartsBefore}

-- what the chains before have, and the next one
segments_more : (m : TheMap) (c : ℕ) (chain : MapChain) → slice_get m.chains c ≡ Some chain → segments_before m.chains (c + 1) ≡ segments_before m.chains c + (length chain.points - 1)
segments_more m c chain is =
    let lt = slice_get_within m.chains c chain is in
    let here = get_or_from_slice_get m.chains c chain chain is in
    rw here at (sum_by_more (λ (k : MapChain). length k.points - 1) m.chains c chain lt)

module _ (H : ℕ → Type 0) where
  alike_push : (cs ds : List MapChain) (c d : MapChain) → AreAlikeBut H cs ds → AreAlikeChains H c d → AreAlikeBut H (cs ++ c ∷ []) (ds ++ d ∷ [])
  alike_push [] [] c d a one = (one, tt)
  alike_push [] (y ∷ ds) c d a one = absurd a
  alike_push (x ∷ cs) [] c d a one = absurd a
  alike_push (x ∷ cs) (y ∷ ds) c d a one = (a.0, alike_push cs ds c d a.1 one)

  pub none_put : (m : TheMap) (points : List Point) (rows : List ChainRow) (sides : List ChainSides) → points ≡ [] → rows ≡ [] → sides ≡ [] → ArePartsBefore H m 0 points rows sides
  none_put m points rows sides p q r = rw (p, q, r) (record {
    table = IsTable-nil [] [] refl refl;
    count = refl;
    long = refl;
    paired = refl;
    proper = All-nil (λ (chain : CompleteChain). IsProperChain chain.points);
    among = All-nil (AreSidesAmong (length m.polygons));
    alike = tt;
  })

  pub one_put : (m : TheMap) (c tlid : ℕ) (more : List Point) (left right : Side) (s : ChainSides) (old_points points : List Point) (old_rows rows : List ChainRow) (old_sides sides : List ChainSides)
      → IsChain (slice_get m.chains c) tlid more left right → IsProperChain more → NameAlike H left s.left → NameAlike H right s.right → AreSidesAmong (length m.polygons) s
      → IsOneMore (record { tlid = tlid; points = more }) old_points old_rows points rows → sides ≡ old_sides ++ s ∷ []
      → ArePartsBefore H m c old_points old_rows old_sides → ArePartsBefore H m (c + 1) points rows sides
  one_put m c tlid more left right s old_points points old_rows rows old_sides sides is proper lefts rights among one grown a =
      let lt = slice_get_within m.chains c is.chain is.is in
      let here : get_or m.chains c is.chain ≡ is.chain = get_or_from_slice_get m.chains c is.chain is.chain is.is in
      let paired = a.paired in
      let count = a.count in
      record {
        table = one.table;
        count = let n = one.count in omega (arith, n, count);
        long =
            let before = a.long in
            let old_total = a.table.total in
            let total = one.table.total in
            let n = one.count in
            let several = proper.several in
            let same : length more ≡ length is.chain.points = ap length is.points_are in
            let counted = ap segment_count one.chains ∙ sum_by_push (λ (k : CompleteChain). length k.points - 1) (chains_in old_points old_rows) (record { tlid = tlid; points = more }) in
            let next = segments_more m c is.chain is.is in
            omega (arith, before, old_total, total, n, several, same, counted, next);
        paired = let n = length_push old_sides s in omega (arith, ap length grown, n, paired);
        proper = rw one.chains (All-push (λ (k : CompleteChain). IsProperChain k.points) (chains_in old_points old_rows) (record { tlid = tlid; points = more }) a.proper proper);
        among = rw grown (All-push (AreSidesAmong (length m.polygons)) old_sides s a.among among);
        alike =
            let long = length-map old_rows (chain_in old_points) in
            let joined : sided (chains_in points rows) sides ≡ sided (chains_in old_points old_rows) old_sides ++ with_sides (record { tlid = tlid; points = more }) s ∷ [] =
            ap (λ ks. sided ks sides) one.chains ∙ ap (sided (chains_in old_points old_rows ++ record { tlid = tlid; points = more } ∷ [])) grown
            ∙ sided_push (chains_in old_points old_rows) old_sides (record { tlid = tlid; points = more }) s (omega (arith, paired, count, long)) in
            let split : take (c + 1) m.chains ≡ take c m.chains ++ is.chain ∷ [] = take_more m.chains c is.chain lt ∙ ap (λ x. take c m.chains ++ x ∷ []) here in
            rw (joined, split) (alike_push (take c m.chains) (sided (chains_in old_points old_rows) old_sides) is.chain (with_sides (record { tlid = tlid; points = more }) s) a.alike
            (record {
              tlids = sym is.tlid_is;
              points = sym is.points_are;
              lefts = λ p kept. ap (λ (x : Side). is_polygon p x) (sym is.left_is) ∙ lefts p kept;
              rights = λ p kept. ap (λ (x : Side). is_polygon p x) (sym is.right_is) ∙ rights p kept;
            }));
      }

  -- all of them make a map
  pub map_made : (m o : TheMap) (points : List Point) (rows : List ChainRow) (sides : List ChainSides) → ArePartsBefore H m (length m.chains) points rows sides
      → o.chains ≡ sided (chains_in points rows) sides → o.polygons ≡ m.polygons → AreMapsAlikeBut H m o
  map_made m o points rows sides a chains polygons = record {
    chains = rw chains (subst (λ cs. AreAlikeBut H cs (sided (chains_in points rows) sides)) (take_all (length m.chains) m.chains (omega arith)) a.alike);
    polygons = polygons;
  }

-- the first chains have no more segments than all
pub room_after : (m : TheMap) (c : ℕ) → segments_before m.chains c ≤ segments_before m.chains (length m.chains)
room_after m c =
    let all : take (length m.chains) m.chains ≡ m.chains = take_all (length m.chains) m.chains (omega arith) in
    let less = sum_by-take-le (λ (k : MapChain). length k.points - 1) m.chains c in
    let same : segments_before m.chains (length m.chains) ≡ sum_by (λ (k : MapChain). length k.points - 1) m.chains = ap (sum_by (λ (k : MapChain). length k.points - 1)) all in
    omega (arith, less, same)

-- nor have those with the next one
pub room_before : (m : TheMap) (c tlid : ℕ) (more : List Point) (left right : Side) → IsChain (slice_get m.chains c) tlid more left right
    → segments_before m.chains c + (length more - 1) ≤ segments_before m.chains (length m.chains)
room_before m c tlid more left right is =
    let next = segments_more m c is.chain is.is in
    let same : length more ≡ length is.chain.points = ap length is.points_are in
    let less = room_after m (c + 1) in
    omega (arith, next, same, less)

pub number_fits : (m : TheMap) (side : Side) {count : ℕ} → count ≡ length m.polygons → count < 2 ^ 32 → IsSideAmong (length m.polygons) side → HasNumber side
number_fits m side {count} is fits among = has_number (length m.polygons) side (omega (arith, is, fits)) among
