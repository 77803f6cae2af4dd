-- The chains that remain, put together one by one.
use Rattle.std.proofs.Common.{◌≡◌, ℕ, ◌+◌, ◌-◌, ◌<◌, ◌≤◌, ◌^◌, Bool, true, false, None, Some, map, List, [], ◌∷◌, ◌++◌, append-nil, length, take, get_or, refl, sym, ap, ◌∙◌, arith}
use Rattle.std.specs.Prelude.{if◌then◌else◌, slice_get}
use Rattle.std.specs.Option.{option_map}
use Rattle.std.proofs.lemmas.List.{length-map, length_push, take_all, take_more, length-take-le}
use Rattle.std.proofs.lemmas.List.Elements.{All-nil, All-push}
use Rattle.std.proofs.lemmas.List.Sums.{sum_by_more, sum_by_push}
use Rattle.std.proofs.lemmas.Option.{get_or_from_slice_get, slice_get-map, same_Some}
use Rattle.tl_geom.specs.declared.point.Point.{Point}
use Rattle.tl_map_county.specs.declared.chains.ChainRow.{ChainRow}
use Rattle.tl_map_county.specs.declared.sides.ChainSides.{ChainSides}
use Rattle.tl_map_county.specs.declared.sides.Side.{Side}
use Rattle.tl_map_county.specs.declared.sides.Side.TheVariants.{Outside, Polygon}
use Rattle.tl_map_county.specs.Chains.{CompleteChain, IsProperChain, segment_count}
use Rattle.tl_map_county.specs.Kept.{HasNumber}
use Rattle.tl_map_county.specs.Remaining.{remaining}
use Rattle.tl_map_county.specs.Rows.{IsTable, chain_in, chains_in, with_sides, sided}
use Rattle.tl_map_county.specs.Sides.{IsSideAmong, AreSidesAmong}
use Rattle.tl_map_county.specs.TheMap.{MapChain}
use Rattle.tl_map_county.specs.Keeping.Remaining.{IsOneMore, AreRemaining, AreAllRemaining}
use Rattle.tl_map_county.proofs.MapLemmas.{length-sided, sides_read}
use Rattle.tl_map_county.proofs.TableLemmas.{IsTable-nil, IsTable-push, chains_in-push}

-- what is read of a chain
pub read_of : {Y : Type 0} (f : CompleteChain → Y) (cs : List CompleteChain) (i : ℕ) (chain : CompleteChain) (y : Y) → slice_get cs i ≡ Some chain
    → slice_get (map f cs) i ≡ Some y → f chain ≡ y
read_of f cs i chain y is told = same_Some (f chain) y (sym (slice_get-map f cs i ∙ ap (option_map f) is) ∙ told)

-- one chain more stands in a table
pub one_more_row : (chain : CompleteChain) (points more new_points : List Point) (rows new_rows : List ChainRow) (t first count : ℕ) → IsTable points rows
    → chain.tlid ≡ t → chain.points ≡ more → 1 ≤ length more → first ≡ length points → count ≡ length more → new_points ≡ points ++ more
    → new_rows ≡ rows ++ record { tlid = t; first = first; count = count } ∷ [] → IsOneMore chain points rows new_points new_rows
one_more_row chain points more new_points rows new_rows t first count table tlid is some at long grown added =
    let whole : chain ≡ record { tlid = t; points = more } = λ k. record { tlid = tlid k; points = is k } in
    rw (grown, added, whole) (record {
      table = IsTable-push points more rows t first count table at long some;
      chains = chains_in-push points more rows t first count table.within at long;
      count = length_push rows (record { tlid = t; first = first; count = count });
    })

-- what remains with one chain more
pub remaining_push : (marks : List Bool) (cs : List MapChain) (c : MapChain) → remaining marks (cs ++ c ∷ []) ≡ remaining marks cs ++ (if get_or marks (length cs) false then [] else c ∷ [])
remaining_push [] [] c = refl
remaining_push (true ∷ marks) [] c = refl
remaining_push (false ∷ marks) [] c = refl
remaining_push [] (x ∷ cs) c = ap (λ ys. x ∷ ys) (remaining_push [] cs c)
remaining_push (true ∷ marks) (x ∷ cs) c = remaining_push marks cs c
remaining_push (false ∷ marks) (x ∷ cs) c = ap (λ ys. x ∷ ys) (remaining_push marks cs c)

pub sided_push : (cs : List CompleteChain) (ss : List ChainSides) (c : CompleteChain) (s : ChainSides) → length ss ≡ length cs
    → sided (cs ++ c ∷ []) (ss ++ s ∷ []) ≡ sided cs ss ++ with_sides c s ∷ []
sided_push [] [] c s same = refl
sided_push [] (y ∷ ss) c s same = absurd (omega (arith, same))
sided_push (x ∷ cs) [] c s same = absurd (omega (arith, same))
sided_push (x ∷ cs) (y ∷ ss) c s same = ap (λ ys. with_sides x y ∷ ys) (sided_push cs ss c s (omega (arith, same)))

-- a polygon's number is small where there are few
pub has_number : (n : ℕ) (side : Side) → n < 2 ^ 32 → IsSideAmong n side → HasNumber side
has_number n Outside few among = tt
has_number n (Polygon p) few among = omega (arith, few, among)

abbrev pub no_sides : ChainSides
no_sides = record { left = Outside; right = Outside; start_cell = None; end_cell = None }

abbrev pub no_chain : CompleteChain
no_chain = record { tlid = 0; points = [] }

module _ (marks : List Bool) (cs : List CompleteChain) (ss : List ChainSides) (paired : length ss ≡ length cs) (n : ℕ) where
  pub none_remain : (points : List Point) (rows : List ChainRow) (rest : List ChainSides) → points ≡ [] → rows ≡ [] → rest ≡ [] → AreRemaining marks cs ss n 0 points rows rest
  none_remain points rows rest p q r = rw (p, q, r) (record {
    table = IsTable-nil [] [] refl refl;
    few = omega arith;
    room = omega arith;
    proper = All-nil (λ (chain : CompleteChain). IsProperChain chain.points);
    among = All-nil (AreSidesAmong n);
    paired = refl;
    are = refl;
  })

  module _ (c : ℕ) (lt : c < length cs) (s : ChainSides) (at : s ≡ get_or ss c s) where
    abbrev pub chain : CompleteChain
    chain = get_or cs c no_chain

    more : take (c + 1) (sided cs ss) ≡ take c (sided cs ss) ++ with_sides chain s ∷ []
    more =
        let here = get_or_from_slice_get (sided cs ss) c (with_sides chain s) (with_sides chain s) (sides_read cs ss c s lt paired at) in
        take_more (sided cs ss) c (with_sides chain s) (omega (arith, lt, length-sided cs ss paired)) ∙ ap (λ x. take c (sided cs ss) ++ x ∷ []) here

    remains : (mark : Bool) → get_or marks c false ≡ mark → remaining marks (take (c + 1) (sided cs ss)) ≡ remaining marks (take c (sided cs ss)) ++ (if mark then [] else with_sides chain s ∷ [])
    remains mark is =
        let long : length (take c (sided cs ss)) ≡ c = length-take-le c (sided cs ss) (omega (arith, lt, length-sided cs ss paired)) in
        ap (remaining marks) more ∙ remaining_push marks (take c (sided cs ss)) (with_sides chain s)
        ∙ ap (λ m. remaining marks (take c (sided cs ss)) ++ (if m then [] else with_sides chain s ∷ [])) (ap (λ k. get_or marks k false) long ∙ is)

    room_more : segment_count (take (c + 1) cs) ≡ segment_count (take c cs) + (length chain.points - 1)
    room_more = sum_by_more (λ k. length k.points - 1) cs c no_chain lt

    -- a chain that is marked is passed over
    pub one_taken : (points : List Point) (rows : List ChainRow) (rest : List ChainSides) → get_or marks c false ≡ true
        → AreRemaining marks cs ss n c points rows rest → AreRemaining marks cs ss n (c + 1) points rows rest
    one_taken points rows rest mark a = record {
      table = a.table;
      few = let few = a.few in omega (arith, few);
      room = let room = a.room in omega (arith, room, room_more);
      proper = a.proper;
      among = a.among;
      paired = a.paired;
      are = a.are ∙ sym (remains true mark ∙ append-nil (remaining marks (take c (sided cs ss))));
    }

    -- another one is added
    pub one_kept : (points : List Point) (rows : List ChainRow) (rest : List ChainSides) (new_points : List Point) (new_rows : List ChainRow) (new_rest : List ChainSides)
        → get_or marks c false ≡ false → IsProperChain chain.points → AreSidesAmong n s → IsOneMore chain points rows new_points new_rows → new_rest ≡ rest ++ s ∷ []
        → AreRemaining marks cs ss n c points rows rest → AreRemaining marks cs ss n (c + 1) new_points new_rows new_rest
    one_kept points rows rest new_points new_rows new_rest mark proper among one grown a = record {
      table = one.table;
      few = let few = a.few in let count = one.count in omega (arith, few, count);
      room =
          let room = a.room in
          let counted = ap segment_count one.chains ∙ sum_by_push (λ k. length k.points - 1) (chains_in points rows) chain in
          omega (arith, room, room_more, counted);
      proper = rw one.chains (All-push (λ (k : CompleteChain). IsProperChain k.points) (chains_in points rows) chain a.proper proper);
      among = rw grown (All-push (AreSidesAmong n) rest s a.among among);
      paired = let before = a.paired in let count = one.count in omega (arith, ap length grown, length_push rest s, before, count);
      are =
          let before = a.paired in
          ap (λ ks. sided ks new_rest) one.chains ∙ ap (sided (chains_in points rows ++ chain ∷ [])) grown
          ∙ sided_push (chains_in points rows) rest chain s (omega (arith, before, length-map rows (chain_in points)))
          ∙ ap (λ ks. ks ++ with_sides chain s ∷ []) a.are ∙ sym (remains false mark);
    }

  pub all_remain : (c : ℕ) (points : List Point) (rows : List ChainRow) (rest : List ChainSides) → length cs ≤ c
      → AreRemaining marks cs ss n c points rows rest → AreAllRemaining marks cs ss n (chains_in points rows) rest
  all_remain c points rows rest past a = record {
    proper = a.proper;
    among = a.among;
    paired = let paired_too = a.paired in omega (arith, paired_too, length-map rows (chain_in points));
    are = a.are ∙ ap (remaining marks) (take_all c (sided cs ss) (omega (arith, past, length-sided cs ss paired)));
  }
