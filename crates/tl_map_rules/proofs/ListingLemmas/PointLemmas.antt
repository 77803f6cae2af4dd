use Rattle.std.proofs.Common.{◌≡◌, ℕ, zero, suc, ◌-◌, ◌<◌, ◌≤◌, Bool, true, false, not, eqb, ◌&&◌, inl, inr, Option, List, [], ◌∷◌, ◌++◌, length, count_by, sum_by, Contains, refl, sym, ap, ◌∙◌, subst, arith}
use Rattle.std.specs.Prelude.{min}
use Rattle.std.specs.List.{filter_map}
use Rattle.std.specs.List.Sorted.{IsPermutation}
use Rattle.std.proofs.lemmas.Bool.{eqb-true, cases_Bool, cases_lt, true≢false, and_parts as both_true}
use Rattle.std.proofs.lemmas.List.{get_or_default}
use Rattle.std.proofs.lemmas.List.Sums.{sum_by-cons}
use Rattle.std.proofs.lemmas.List.Sorted.{Contains-permutation, IsPermutation-sym, sum_by-IsPermutation}
use Rattle.tl_geom.specs.declared.point.Point.{Point}
use Rattle.tl_record.specs.declared.record.Record.{Record}
use Rattle.tl_record.specs.declared.record.Record.TheVariants.{Chain, Shape, Sides, PolyPoint, Landmark, AreaLink}
use Rattle.tl_map_rules.specs.declared.entry.ChainEntry.{ChainEntry}
use Rattle.tl_map_rules.specs.declared.fault.RecordFault.{RecordFault}
use Rattle.tl_map_rules.specs.ChainsOf.{used, pairs_of, points_between, segments_by, segments_of}
use Rattle.tl_map_rules.specs.Faults.{IsTrueOf, IsChainRepeated, AreShapesNumbered, IsDegenerate, AreJoined}
use Rattle.tl_map_rules.specs.declared.listing.shape.ShapeSummary.{ShapeSummary}
use Rattle.tl_map_rules.specs.Listing.AllFaults.{fault_place}
use Rattle.tl_map_rules.specs.Listing.Kept.{chain_at}
use Rattle.tl_map_rules.specs.Listing.Keeping.Told.{Tells, AreTold}
use Rattle.tl_map_rules.specs.Listing.Keeping.Numbers.{chains_with}
use Rattle.tl_map_rules.specs.Listing.Keeping.Runs.{AreShapes, run_of, in_sequence, seen_in_run, chain_steps, is_one_point}
use Rattle.tl_map_rules.specs.Listing.Keeping.Chains.{is_alone, IsOnePointFault, steps_with}
use Rattle.tl_map_rules.proofs.ListingLemmas.ToldLemmas.{told_more}
use Rattle.tl_map_rules.proofs.ListingLemmas.CountedLemmas.{count-map, chain_tlids}
use Rattle.tl_map_rules.proofs.ListingLemmas.OrderLemmas.{degenerate_there}
use Rattle.tl_map_rules.proofs.ListingLemmas.TraceLemmas.{steps_are}
use Rattle.tl_map_rules.proofs.ListingLemmas.ShapeLemmas.{numbered_run, run_numbered, seen_run, gap_run}
use Rattle.tl_map_rules.proofs.ListingLemmas.ChainLemmas.{few_alone, alone_few}
use Rattle.tl_map_rules.proofs.PairLemmas.{dedup_from-is}

-- chains that are kept are records, and records are kept
chain_of : (rs : List Record) (c : ChainEntry) → Contains (filter_map chain_at rs) c → Contains rs (Chain c.tlid c.from c.to)
chain_of [] c has = absurd (omega (arith, has.1))
chain_of (r ∷ rs) c has = go r has (chain_of rs c)
  where
    later : (r : Record) → Contains rs (Chain c.tlid c.from c.to) → Contains (r ∷ rs) (Chain c.tlid c.from c.to)
    later r (k, lt, at) = (suc k, omega arith, at)

    go : (r : Record) → Contains (filter_map chain_at (r ∷ rs)) c → (Contains (filter_map chain_at rs) c → Contains rs (Chain c.tlid c.from c.to)) → Contains (r ∷ rs) (Chain c.tlid c.from c.to)
    go (Chain t from to) (zero, lt, at) rest = (0, omega arith, λ i. Chain (at i).tlid (at i).from (at i).to)
    go (Chain t from to) (suc k, lt, at) rest = later (Chain t from to) (rest (k, omega arith, at))
    go (Shape t n pairs) has rest = later (Shape t n pairs) (rest has)
    go (Sides t a e l r) has rest = later (Sides t a e l r) (rest has)
    go (PolyPoint k p) has rest = later (PolyPoint k p) (rest has)
    go (Landmark k p) has rest = later (Landmark k p) (rest has)
    go (AreaLink k m) has rest = later (AreaLink k m) (rest has)

of_chain : (rs : List Record) (t : ℕ) (from to : Point) → Contains rs (Chain t from to) → Contains (filter_map chain_at rs) (record { tlid = t; from = from; to = to })
of_chain [] t from to has = absurd (omega (arith, has.1))
of_chain (r ∷ rs) t from to (zero, lt, at) = rw at (0, omega arith, refl)
of_chain (r ∷ rs) t from to (suc k, lt, at) = go r (of_chain rs t from to (k, omega arith, at))
  where
    c : ChainEntry
    c = record { tlid = t; from = from; to = to }

    go : (r : Record) → Contains (filter_map chain_at rs) c → Contains (filter_map chain_at (r ∷ rs)) c
    go (Chain u f g) (i, less, there) = (suc i, omega arith, there)
    go (Shape u n pairs) has = has
    go (Sides u a e l r) has = has
    go (PolyPoint k p) has = has
    go (Landmark k p) has = has
    go (AreaLink k m) has = has

-- how many chains have a TLID
chains_counted : (rs : List Record) (chains : List ChainEntry) (t : ℕ) → IsPermutation (filter_map chain_at rs) chains → count_by (λ (c : ChainEntry). eqb c.tlid t) chains ≡ chains_with rs t
chains_counted rs chains t moved = sym (count-map (λ n. eqb n t) (λ (c : ChainEntry). c.tlid) chains) ∙ chain_tlids rs (filter_map chain_at rs) chains refl moved t

not_true : (a : Bool) → not a ≡ true → a ≡ false
not_true true e = absurd (true≢false (sym e))
not_true false e = refl

-- a chain has a point at least
some_point : (from to : Point) (pairs : List (Option Point)) → 1 ≤ length (points_between from pairs to)
some_point from to pairs = omega (arith, ap length (dedup_from-is from (used pairs ++ to ∷ [])))

-- the steps of a chain with the shapes of its TLID
pub with_shapes : (rs : List Record) (shapes : List ShapeSummary) (c : ChainEntry) → AreShapes rs shapes → AreShapesNumbered rs c.tlid → steps_with shapes c ≡ min (length (points_between c.from (pairs_of rs c.tlid) c.to) - 1) 4294967295
with_shapes rs shapes c are numbered = ap (chain_steps c) (seen_run rs shapes c.tlid are (numbered_run rs shapes c.tlid are numbered)) ∙ steps_are c (pairs_of rs c.tlid)

-- M12 is told
pub told_degenerate : (rs : List Record) (codes : List ℕ) (chains : List ChainEntry) (shapes : List ShapeSummary) (old new : List RecordFault) → IsPermutation (filter_map chain_at rs) chains → AreShapes rs shapes → Tells (IsOnePointFault chains shapes (length chains)) old new → AreTold rs codes old → AreTold rs (12 ∷ codes) new
told_degenerate rs codes chains shapes old new moved are tells before =
    told_more rs codes 12 (IsOnePointFault chains shapes (length chains)) old new
    (λ f p. subst (IsTrueOf rs) (sym p.is) (true_point p.chain (p.place, p.within, p.there p.chain) p.alone p.one_point))
    (λ f holds code.
    let t = (fault_place f).1 in
    let is = degenerate_there f code in
    let d : IsDegenerate rs t = subst (IsTrueOf rs) is holds in
    let c : ChainEntry = record { tlid = t; from = d.from; to = d.to } in
    let at : Contains chains c = Contains-permutation (filter_map chain_at rs) chains c moved (of_chain rs t d.from d.to d.record_of_it) in
    record {
      chain = c;
      place = at.0;
      below = at.1;
      within = at.1;
      there = λ x. get_or_default chains at.0 x c at.1 ∙ at.2;
      is = is;
      alone = few_alone chains t (omega (arith, chains_counted rs chains t moved, few t d.once));
      one_point = point_found t d;
    })
    tells before
  where
    few : (t : ℕ) → ¬ IsChainRepeated rs t → chains_with rs t < 2
    few t once = elim (cases_lt (chains_with rs t) 2) [ inl less ↦ less | inr many ↦ absurd (once many) ]

    true_point : (c : ChainEntry) → Contains chains c → is_alone chains c.tlid ≡ true → is_one_point c (run_of shapes c.tlid) ≡ true → IsDegenerate rs c.tlid
    true_point c has alone point =
        let run = run_of shapes c.tlid in
        let parts = both_true (in_sequence run && not (seen_in_run run).gap) (eqb (chain_steps c (seen_in_run run)) 0) point in
        let first = both_true (in_sequence run) (not (seen_in_run run).gap) parts.0 in
        let numbered = run_numbered rs shapes c.tlid are first.0 in
        let steps = eqb-true (steps_with shapes c) 0 parts.1 in
        record {
          once = λ many. omega (arith, many, alone_few chains c.tlid alone, chains_counted rs chains c.tlid moved);
          numbered = numbered;
          no_gap = λ broken. true≢false (sym broken.gap ∙ sym (gap_run rs shapes c.tlid are first.0) ∙ not_true (seen_in_run run).gap first.1);
          from = c.from;
          to = c.to;
          record_of_it = chain_of rs c (Contains-permutation chains (filter_map chain_at rs) c (IsPermutation-sym (filter_map chain_at rs) chains moved) has);
          one_point = omega (arith, steps, with_shapes rs shapes c are numbered, some_point c.from c.to (pairs_of rs c.tlid));
        }

    point_found : (t : ℕ) (d : IsDegenerate rs t) → is_one_point (record { tlid = t; from = d.from; to = d.to }) (run_of shapes t) ≡ true
    point_found t d =
        let c : ChainEntry = record { tlid = t; from = d.from; to = d.to } in
        let up = numbered_run rs shapes t are d.numbered in
        let smooth : (seen_in_run (run_of shapes t)).gap ≡ false = elim (cases_Bool (seen_in_run (run_of shapes t)).gap) [
          | inl gap ↦ absurd (d.no_gap (record { numbered = d.numbered; gap = sym (gap_run rs shapes t are up) ∙ gap }))
          | inr none ↦ none
        ] in
        let steps : chain_steps c (seen_in_run (run_of shapes t)) ≡ 0 = omega (arith, with_shapes rs shapes c are d.numbered, d.one_point) in
        rw (up, smooth, steps) refl

-- of records that are joined, the steps of all chains are more than so many where the segments are
pub segments_told : (rs : List Record) (chains : List ChainEntry) (shapes : List ShapeSummary) → IsPermutation (filter_map chain_at rs) chains → AreShapes rs shapes → AreJoined rs → (16777216 < segments_of rs → 16777216 < min (sum_by (steps_with shapes) chains) 18446744073709551615) × (16777216 < min (sum_by (steps_with shapes) chains) 18446744073709551615 → 16777216 < segments_of rs)
segments_told rs chains shapes moved are join =
    let same : sum_by (steps_with shapes) chains ≡ sum_by (steps_with shapes) (filter_map chain_at rs) = sum_by-IsPermutation (steps_with shapes) (filter_map chain_at rs) chains moved in
    let upto = kept_steps rs in
    (λ many. omega (arith, same, upto, many), λ many. omega (arith, same, upto, many))
  where
    -- each chain's steps are its segments, up to a greatest number
    kept_steps : (xs : List Record) → (sum_by (steps_with shapes) (filter_map chain_at xs) ≤ sum_by (segments_by rs) xs) × (min (sum_by (segments_by rs) xs) 4294967295 ≤ sum_by (steps_with shapes) (filter_map chain_at xs))
    kept_steps [] = (omega arith, omega arith)
    kept_steps (x ∷ xs) = go x (kept_steps xs)
      where
        go : (x : Record) → (sum_by (steps_with shapes) (filter_map chain_at xs) ≤ sum_by (segments_by rs) xs) × (min (sum_by (segments_by rs) xs) 4294967295 ≤ sum_by (steps_with shapes) (filter_map chain_at xs)) → (sum_by (steps_with shapes) (filter_map chain_at (x ∷ xs)) ≤ sum_by (segments_by rs) (x ∷ xs)) × (min (sum_by (segments_by rs) (x ∷ xs)) 4294967295 ≤ sum_by (steps_with shapes) (filter_map chain_at (x ∷ xs)))
        go (Chain t from to) rest =
            let c : ChainEntry = record { tlid = t; from = from; to = to } in
            let one = with_shapes rs shapes c are (join.numbered t) in
            let left = sum_by-cons (steps_with shapes) c (filter_map chain_at xs) in
            let right = sum_by-cons (segments_by rs) (Chain t from to) xs in
            (omega (arith, one, left, right, rest.0), omega (arith, one, left, right, rest.1))
        go (Shape t n pairs) rest = let right = sum_by-cons (segments_by rs) (Shape t n pairs) xs in (omega (arith, right, rest.0), omega (arith, right, rest.1))
        go (Sides t a e l r) rest = let right = sum_by-cons (segments_by rs) (Sides t a e l r) xs in (omega (arith, right, rest.0), omega (arith, right, rest.1))
        go (PolyPoint k p) rest = let right = sum_by-cons (segments_by rs) (PolyPoint k p) xs in (omega (arith, right, rest.0), omega (arith, right, rest.1))
        go (Landmark k p) rest = let right = sum_by-cons (segments_by rs) (Landmark k p) xs in (omega (arith, right, rest.0), omega (arith, right, rest.1))
        go (AreaLink k m) rest = let right = sum_by-cons (segments_by rs) (AreaLink k m) xs in (omega (arith, right, rest.0), omega (arith, right, rest.1))
