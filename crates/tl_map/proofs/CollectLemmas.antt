use Rattle.std.proofs.Common.{◌≡◌, ℕ, zero, suc, ◌+◌, ◌<◌, ◌≤◌, Bool, true, false, cond, ◌&&◌, ◌||◌, Option, Some, None, List, [], ◌∷◌, ◌++◌, length, take, drop, get_or, sum_by, map, All, Contains, refl, sym, ap, ◌∙◌, arith}
use Rattle.std.specs.List.{filter_map}
use Rattle.std.specs.List.Sorted.{IsPermutation}
use Rattle.std.proofs.lemmas.List.{append-nil, append_assoc, map-append, take_more, drop-append-le, take-append-le, drop_at, take_all, length-append, length-drop}
use Rattle.std.proofs.lemmas.List.Elements.{All-push, All-weaker, Contains-append_left, Contains-push, filter_map-append}
use Rattle.std.proofs.lemmas.List.Sorted.{sum_by-IsPermutation, All-permutation, IsPermutation-map, IsPermutation-refl}
use Rattle.std.proofs.lemmas.List.Sums.{sum_by_push, sum_by-cons}
use Rattle.tl_geom.specs.declared.point.Point.{Point}
use Rattle.tl_record.specs.declared.record.Record.{Record}
use Rattle.tl_record.specs.declared.record.Record.TheVariants.{Chain, Shape, Sides, PolyPoint, Landmark, AreaLink}
use Rattle.tl_map.specs.declared.collect.Collected.{Collected}
use Rattle.tl_map.specs.Keeping.Collected.{Collects, LeavesChains}
use Rattle.tl_map_rules.specs.Listing.Kept.{chain_at, shape_at}
use Rattle.tl_map_rules.proofs.ListingLemmas.TraceLemmas.{seen_filled}
use Rattle.tl_map_rules.specs.declared.entry.ChainEntry.{ChainEntry}
use Rattle.tl_map_rules.specs.declared.entry.ShapeEntry.{ShapeEntry}
use Rattle.std.specs.Prelude.{if◌then◌else◌, Result, Ok, Err, OnOk}
use Rattle.tl_map_rules.specs.declared.entry.Fill.{Fill}
use Rattle.tl_map_rules.specs.declared.entry.Fill.TheVariants.{Full, Ended, Gap}
use Rattle.tl_map_rules.specs.ChainsOf.{is_any_chain, chain_count, used, has_gap}
use Rattle.tl_map_rules.specs.Listing.Shapes.{fill_of, seen_in, seen_by, entry_points, IsInside, summary_in}
use Rattle.tl_map.specs.Keeping.Entries.{by_chain, by_shape, AreChainEntries, IsShapeEntry, AreShapeEntries}
use Rattle.tl_map_rules.proofs.CountLemmas.{sum_by-same}
use Rattle.tl_map_rules.specs.Keeping.Pairs.{some_unused}
use Rattle.tl_map_rules.proofs.PairLemmas.{used-append, some_unused-append, has_gap-append}

-- what is kept of the pairs seen so far
pub record AreSeen (old pool : List Point) (has_ended has_break : Bool) (pairs : List (Option Point)) : Type 0 where
  pub points : pool ≡ old ++ used pairs
  pub ended : has_ended ≡ some_unused pairs
  pub gap : has_break ≡ has_gap pairs

-- an unused pair more
pub AreSeen-none : (old pool : List Point) (ended gap : Bool) (pairs : List (Option Point)) (i : ℕ) → i < length pairs → get_or pairs i None ≡ None → AreSeen old pool ended gap (take i pairs) → AreSeen old pool true gap (take (i + 1) pairs)
AreSeen-none old pool ended gap pairs i h at seen =
    let more = take_more pairs i None h ∙ ap (λ p. take i pairs ++ p ∷ []) at in
    rw more (record {
      points = seen.points ∙ ap (λ ps. old ++ ps) (sym (used-append (take i pairs) (None ∷ []) ∙ append-nil (used (take i pairs))));
      ended = sym (some_unused-append (take i pairs) (None ∷ []) ∙ or_true (some_unused (take i pairs)));
      gap = seen.gap ∙ sym (has_gap-append (take i pairs) (None ∷ []) ∙ or_none (has_gap (take i pairs)) (some_unused (take i pairs)));
    })
  where
    or_true : (b : Bool) → (b || true) ≡ true
    or_true true = refl
    or_true false = refl

    or_none : (a b : Bool) → ((a || (b && false)) || false) ≡ a
    or_none true true = refl
    or_none true false = refl
    or_none false true = refl
    or_none false false = refl

-- a used pair more
pub AreSeen-some : (old pool : List Point) (ended gap : Bool) (pairs : List (Option Point)) (i : ℕ) (p : Point) → i < length pairs → get_or pairs i None ≡ Some p → AreSeen old pool ended gap (take i pairs) → AreSeen old (pool ++ p ∷ []) ended (gap || ended) (take (i + 1) pairs)
AreSeen-some old pool ended gap pairs i p h at seen =
    let more = take_more pairs i None h ∙ ap (λ q. take i pairs ++ q ∷ []) at in
    rw more (record {
      points = ap (λ ps. ps ++ p ∷ []) seen.points ∙ append_assoc old (used (take i pairs)) (p ∷ []) ∙ ap (λ ps. old ++ ps) (sym (used-append (take i pairs) (Some p ∷ [])));
      ended = seen.ended ∙ sym (some_unused-append (take i pairs) (Some p ∷ []) ∙ or_false (some_unused (take i pairs)));
      gap = ap (λ g. g || ended) seen.gap ∙ ap (λ e. has_gap (take i pairs) || e) seen.ended ∙ sym (has_gap-append (take i pairs) (Some p ∷ []) ∙ or_some (has_gap (take i pairs)) (some_unused (take i pairs)));
    })
  where
    or_false : (b : Bool) → (b || false) ≡ b
    or_false true = refl
    or_false false = refl

    or_some : (a b : Bool) → ((a || (b && true)) || false) ≡ (a || b)
    or_some true true = refl
    or_some true false = refl
    or_some false true = refl
    or_some false false = refl

-- all pairs are seen
pub AreSeen-all : (old pool : List Point) (ended gap : Bool) (pairs : List (Option Point)) (i : ℕ) → length pairs ≤ i → AreSeen old pool ended gap (take i pairs) → AreSeen old pool ended gap pairs
AreSeen-all old pool ended gap pairs i h seen = rw (take_all i pairs h) at seen

-- how they are filled
pub filled : (old pool : List Point) (ended gap : Bool) (pairs : List (Option Point)) (f : Fill) → f ≡ (if gap then Gap else (if ended then Ended else Full)) → AreSeen old pool ended gap pairs → f ≡ fill_of pairs
filled old pool ended gap pairs f is seen = is ∙ rw (seen.gap, seen.ended) refl

-- no more points than pairs
pub length-used : (pairs : List (Option Point)) → length (used pairs) ≤ length pairs
length-used [] = omega arith
length-used (None ∷ pairs) = omega (arith, length-used pairs)
length-used (Some p ∷ pairs) = omega (arith, length-used pairs)

-- a sum of ones is a length
sum_by_ones : {X : Type 0} (xs : List X) → sum_by (λ _. 1) xs ≡ length xs
sum_by_ones [] = refl
sum_by_ones (x ∷ xs) = omega (arith, sum_by-cons (λ _. 1) x xs, sum_by_ones xs)

-- there are as many chain entries as type 1 records
pub chain_count_is : (rs : List Record) (entries : List ChainEntry) → AreChainEntries rs entries → chain_count rs ≡ length entries
chain_count_is rs entries h = sum_by-same _ _ same rs ∙ sym (h.sums (λ t from to. 1)) ∙ sum_by_ones entries
  where
    same : (r : Record) → cond {A = ℕ} (is_any_chain r) 1 0 ≡ by_chain (λ t from to. 1) r
    same (Chain u from to) = refl
    same (Shape u k pairs) = refl
    same other = refl

-- a record before others
record_before : (rs : List Record) (r : Record) (entries : List ChainEntry) → AreChainEntries rs entries → All (λ (c : ChainEntry). Contains (r ∷ rs) (Chain c.tlid c.from c.to)) entries
record_before rs r entries h = All-weaker (λ (c : ChainEntry). Contains rs (Chain c.tlid c.from c.to)) (λ (c : ChainEntry). Contains (r ∷ rs) (Chain c.tlid c.from c.to)) (λ c found. (suc found.0, omega (arith, found.1), found.2)) entries h.each

-- the type 1 records stand for themselves
pub chain_entries : (rs : List Record) → AreChainEntries rs (filter_map chain_at rs)
chain_entries [] = record { sums = λ f. refl; each = λ k d lt. absurd (omega arith) }
chain_entries (r ∷ rs) = go r (chain_entries rs)
  where
    other : (r : Record) → ((f : ℕ → Point → Point → ℕ) → by_chain f r ≡ 0) → AreChainEntries rs (filter_map chain_at rs) → AreChainEntries (r ∷ rs) (filter_map chain_at rs)
    other r none rest = record {
      sums = λ f. let right = sum_by-cons (by_chain f) r rs in omega (arith, right, none f, rest.sums f);
      each = record_before rs r (filter_map chain_at rs) rest;
    }

    go : (r : Record) → AreChainEntries rs (filter_map chain_at rs) → AreChainEntries (r ∷ rs) (filter_map chain_at (r ∷ rs))
    go (Chain t from to) rest = record {
      sums = λ f.
          let left = sum_by-cons (λ (c : ChainEntry). f c.tlid c.from c.to) (record { tlid = t; from = from; to = to }) (filter_map chain_at rs) in
          let right = sum_by-cons (by_chain f) (Chain t from to) rs in
          omega (arith, left, right, rest.sums f);
      each = all (record_before rs (Chain t from to) (filter_map chain_at rs) rest);
    }
      where
        all : All (λ (c : ChainEntry). Contains (Chain t from to ∷ rs) (Chain c.tlid c.from c.to)) (filter_map chain_at rs) → All (λ (c : ChainEntry). Contains (Chain t from to ∷ rs) (Chain c.tlid c.from c.to)) (filter_map chain_at (Chain t from to ∷ rs))
        all later zero d lt = (0, omega arith, refl)
        all later (suc k) d lt = later k d (omega arith)
    go (Shape t n pairs) rest = other (Shape t n pairs) (λ f. refl) rest
    go (Sides t s e l r) rest = other (Sides t s e l r) (λ f. refl) rest
    go (PolyPoint k p) rest = other (PolyPoint k p) (λ f. refl) rest
    go (Landmark n p) rest = other (Landmark n p) (λ f. refl) rest
    go (AreaLink k n) rest = other (AreaLink k n) (λ f. refl) rest

-- a record of another type has no entry
abbrev pub IsOther : Record → Type 0
IsOther (Chain t from to) = ⊥
IsOther (Shape t n pairs) = ⊥
IsOther other = Unit {0}

none_by_shape : (f : ℕ → ℕ → ℕ) (r : Record) → IsOther r → by_shape f r ≡ 0
none_by_shape f (Shape t n pairs) other = absurd other
none_by_shape f r other = refl

none_kept : (r : Record) → IsOther r → (filter_map chain_at (r ∷ []) ≡ []) × (filter_map shape_at (r ∷ []) ≡ [])
none_kept (Chain t from to) other = absurd other
none_kept (Shape t n pairs) other = absurd other
none_kept (Sides t s e l r) other = (refl, refl)
none_kept (PolyPoint k p) other = (refl, refl)
none_kept (Landmark n p) other = (refl, refl)
none_kept (AreaLink k n) other = (refl, refl)

-- an entry stands for its record among more records and points
IsShapeEntry-append : (rs more : List Record) (pool points : List Point) (s : ShapeEntry) → IsShapeEntry rs pool s → IsShapeEntry (rs ++ more) (pool ++ points) s
IsShapeEntry-append rs more pool points s entry = record {
  pairs = entry.pairs;
  record_of_it = Contains-append_left rs more (Shape s.tlid s.rtsq entry.pairs) entry.record_of_it;
  inside = omega (arith, entry.inside, length-append pool points);
  points = ap (take s.used) (drop-append-le s.first pool points (omega (arith, entry.inside)))
      ∙ take-append-le s.used (drop s.first pool) points (omega (arith, entry.inside, length-drop s.first pool)) ∙ entry.points;
  fill = entry.fill;
}

-- a type 1 record more has no shape entry
pub AreShapeEntries-chain : (rs : List Record) (pool : List Point) (entries : List ShapeEntry) (t : ℕ) (from to : Point) → AreShapeEntries rs pool entries → AreShapeEntries (rs ++ Chain t from to ∷ []) pool entries
AreShapeEntries-chain rs pool entries t from to h = record {
  sums = λ f. let right = sum_by_push (by_shape f) rs (Chain t from to) in omega (arith, right, h.sums f);
  each = All-weaker (IsShapeEntry rs pool) (IsShapeEntry (rs ++ Chain t from to ∷ []) pool)
      (λ s entry. rw (← append-nil pool) (IsShapeEntry-append rs (Chain t from to ∷ []) pool [] s entry)) entries h.each;
}

pub AreShapeEntries-other : (rs : List Record) (pool : List Point) (entries : List ShapeEntry) (r : Record) → IsOther r → AreShapeEntries rs pool entries → AreShapeEntries (rs ++ r ∷ []) pool entries
AreShapeEntries-other rs pool entries r other h = record {
  sums = λ f. let right = sum_by_push (by_shape f) rs r in let none = none_by_shape f r other in omega (arith, right, none, h.sums f);
  each = All-weaker (IsShapeEntry rs pool) (IsShapeEntry (rs ++ r ∷ []) pool)
      (λ s entry. rw (← append-nil pool) (IsShapeEntry-append rs (r ∷ []) pool [] s entry)) entries h.each;
}

-- a type 2 record more, kept
pub AreShapeEntries-push : (rs : List Record) (old pool : List Point) (entries : List ShapeEntry) (t n first count : ℕ) (fill : Fill) (pairs : List (Option Point)) → pool ≡ old ++ used pairs → first ≡ length old → count ≡ length (used pairs) → fill ≡ fill_of pairs → AreShapeEntries rs old entries → AreShapeEntries (rs ++ Shape t n pairs ∷ []) pool (entries ++ record { tlid = t; first = first; rtsq = n; used = count; fill = fill } ∷ [])
AreShapeEntries-push rs old pool entries t n first count fill pairs is at many filled h = rw is (record {
  sums = λ f.
      let left = sum_by_push (λ (s : ShapeEntry). f s.tlid s.rtsq) entries (record { tlid = t; first = first; rtsq = n; used = count; fill = fill }) in
      let right = sum_by_push (by_shape f) rs (Shape t n pairs) in
      omega (arith, left, right, h.sums f);
  each = All-push (IsShapeEntry (rs ++ Shape t n pairs ∷ []) (old ++ used pairs)) entries (record { tlid = t; first = first; rtsq = n; used = count; fill = fill })
      (All-weaker (IsShapeEntry rs old) _ (λ s entry. IsShapeEntry-append rs (Shape t n pairs ∷ []) old (used pairs) s entry) entries h.each)
      (record {
        pairs = pairs;
        record_of_it = Contains-push rs (Shape t n pairs);
        inside = omega (arith, at, many, length-append old (used pairs));
        points = ap (take count) (drop_at old (used pairs) first (sym at)) ∙ take_all count (used pairs) (omega (arith, many));
        fill = filled;
      });
})

-- the order of the entries has no meaning
pub AreChainEntries-permutation : (rs : List Record) (xs ys : List ChainEntry) → IsPermutation xs ys → AreChainEntries rs xs → AreChainEntries rs ys
AreChainEntries-permutation rs xs ys moved h = record {
  sums = λ f. sum_by-IsPermutation (λ (c : ChainEntry). f c.tlid c.from c.to) xs ys moved ∙ h.sums f;
  each = All-permutation (λ (c : ChainEntry). Contains rs (Chain c.tlid c.from c.to)) xs ys moved h.each;
}

-- the type 1 records stand for themselves in any order
pub sorted_entries : (rs : List Record) (old new : List ChainEntry) → old ≡ filter_map chain_at rs → IsPermutation old new → AreChainEntries rs new
sorted_entries rs old new is moved = AreChainEntries-permutation rs old new moved (rw is (chain_entries rs))

pub AreShapeEntries-permutation : (rs : List Record) (pool : List Point) (xs ys : List ShapeEntry) → IsPermutation xs ys → AreShapeEntries rs pool xs → AreShapeEntries rs pool ys
AreShapeEntries-permutation rs pool xs ys moved h = record {
  sums = λ f. sum_by-IsPermutation (λ (s : ShapeEntry). f s.tlid s.rtsq) xs ys moved ∙ h.sums f;
  each = All-permutation (IsShapeEntry rs pool) xs ys moved h.each;
}

-- what is kept of entries doesn't hang on the points behind theirs
summaries_same : (old more : List Point) (entries : List ShapeEntry) → All (IsInside old) entries → map (summary_in (old ++ more)) entries ≡ map (summary_in old) entries
summaries_same old more [] inside = refl
summaries_same old more (s ∷ entries) inside =
    let within : IsInside old s = inside 0 s (omega arith) in
    let points : entry_points (old ++ more) s ≡ entry_points old s = ap (take s.used) (drop-append-le s.first old more (omega (arith, within))) ∙ take-append-le s.used (drop s.first old) more (omega (arith, within, length-drop s.first old)) in
    let rest = summaries_same old more entries (λ k d lt. inside (suc k) d (omega arith)) in
    λ i. record { tlid = s.tlid; seen = seen_by (points i) s.fill; rtsq = s.rtsq } ∷ rest i

-- what is kept of one entry more
pub summaries_push : (old pool : List Point) (entries : List ShapeEntry) (t n first count : ℕ) (fill : Fill) (pairs : List (Option Point)) → pool ≡ old ++ used pairs → first ≡ length old → count ≡ length (used pairs) → fill ≡ fill_of pairs → All (IsInside old) entries → map (summary_in pool) (entries ++ record { tlid = t; first = first; rtsq = n; used = count; fill = fill } ∷ []) ≡ map (summary_in old) entries ++ filter_map shape_at (Shape t n pairs ∷ [])
summaries_push old pool entries t n first count fill pairs is at many filled inside =
    let e : ShapeEntry = record { tlid = t; first = first; rtsq = n; used = count; fill = fill } in
    let points : entry_points (old ++ used pairs) e ≡ used pairs = ap (take count) (drop_at old (used pairs) first (sym at)) ∙ take_all count (used pairs) (omega (arith, many)) in
    let seen : seen_by (entry_points (old ++ used pairs) e) fill ≡ seen_in pairs = (λ i. seen_by (points i) (filled i)) ∙ seen_filled pairs in
    rw is (map-append (summary_in (old ++ used pairs)) entries (e ∷ []) ∙ (λ i. summaries_same old (used pairs) entries inside i ++ record { tlid = t; seen = seen i; rtsq = n } ∷ []))

-- one record more is kept
pub collects_more : (rs : List Record) (r : Record) (c new : Collected) → Collects rs c → new.chains.items ≡ c.chains.items ++ filter_map chain_at (r ∷ []) → AreShapeEntries (rs ++ r ∷ []) new.pool.items new.shapes.items → map (summary_in new.pool.items) new.shapes.items ≡ map (summary_in c.pool.items) c.shapes.items ++ filter_map shape_at (r ∷ []) → Collects (rs ++ r ∷ []) new
collects_more rs r c new h chains shapes summaries = record {
  chains = chains ∙ ap (λ xs. xs ++ filter_map chain_at (r ∷ [])) h.chains ∙ sym (filter_map-append chain_at rs (r ∷ []));
  shapes = shapes;
  summaries = summaries ∙ ap (λ xs. xs ++ filter_map shape_at (r ∷ [])) h.summaries ∙ sym (filter_map-append shape_at rs (r ∷ []));
}

-- both hold of what is made
pub both_made : {T E P Q R : Type 0} (r : Result T E) → (P → Q → R) → OnOk r P → OnOk r Q → OnOk r R
both_made (Ok x) f p q = f p q
both_made (Err e) f p q = tt

-- nothing more
pub same : {X : Type 0} (xs : List X) → xs ≡ xs ++ []
same xs = sym (append-nil xs)

-- a record of another type more changes nothing
pub Collects-other : (rs : List Record) (r : Record) (c : Collected) → IsOther r → Collects rs c → Collects (rs ++ r ∷ []) c
Collects-other rs r c other h =
    let none = none_kept r other in
    collects_more rs r c c h (rw none.0 (same c.chains.items)) (AreShapeEntries-other rs c.pool.items c.shapes.items r other h.shapes) (rw none.1 (same (map (summary_in c.pool.items) c.shapes.items)))

-- entries lie within the list of points
pub all_inside : (rs : List Record) (pool : List Point) (entries : List ShapeEntry) → AreShapeEntries rs pool entries → All (IsInside pool) entries
all_inside rs pool entries h = All-weaker (IsShapeEntry rs pool) (IsInside pool) (λ s entry. entry.inside) entries h.each

-- what is kept tells all faults, in any order
pub leaves_moved : (rs : List Record) (old new : Collected) → Collects rs old → IsPermutation old.chains.items new.chains.items → IsPermutation old.shapes.items new.shapes.items → new.pool.items ≡ old.pool.items → LeavesChains rs new
leaves_moved rs old new h chains shapes pool = record {
  chains = record {
    of_chains = rw h.chains at chains;
    of_shapes = rw (pool, ← h.summaries) (IsPermutation-map (summary_in old.pool.items) old.shapes.items new.shapes.items shapes);
  };
  inside = rw pool (All-permutation (IsInside old.pool.items) old.shapes.items new.shapes.items shapes (all_inside rs old.pool.items old.shapes.items h.shapes));
}

pub leaves_all : (rs : List Record) (c : Collected) → Collects rs c → LeavesChains rs c
leaves_all rs c h = leaves_moved rs c c h (IsPermutation-refl c.chains.items) (IsPermutation-refl c.shapes.items) refl
