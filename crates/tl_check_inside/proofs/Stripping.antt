-- What lies in a strip is enough for each point of it.
use Rattle.std.proofs.Common.{◌≡◌, ℕ, ◌+◌, ◌-◌, ◌<◌, ◌≤◌, ◌≤ℤ◌, pos, Option, Some, None, Result, Ok, Err, IfOk, MatchOption, inl, inr, List, [], ◌++◌, length, get_or, take, drop, All, sym, subst, ap, ◌∙◌, arith}
use Rattle.std.proofs.lemmas.Bool.{cases_lt}
use Rattle.std.proofs.lemmas.Int.{ints}
use Rattle.std.proofs.lemmas.List.{get_or_default, length-take, length-drop, get_or-take, get_or-drop}
use Rattle.tl_geom.specs.declared.point.Point.{Point}
use Rattle.tl_geom.specs.declared.rect.Rect.{Rect}
use Rattle.tl_geom.specs.Rectangle.{Holds, Covers, AreMeeting, ray_rect, spot_rect}
use Rattle.tl_map_county.specs.TheMap.{MapChain}
use Rattle.tl_map_county.specs.Segments.{segments_before}
use Rattle.tl_check_planar.specs.Rectangles.{segment_rect}
use Rattle.tl_check_planar.proofs.Numbering.{below_total}
use Rattle.tl_tree_index.specs.Hits.{AreHits, Adds}
use Rattle.tl_check_inside.specs.declared.strips.Site.{Site}
use Rattle.tl_check_inside.specs.Keeping.Probing.{IsReached, IsTouching, ChainsAreInReach, holding_meets}
use Rattle.tl_check_inside.specs.Keeping.Strips.{IsInStrip, AreEnough}
use Rattle.tl_check_inside.proofs.Reaching.{reached, all_below}

wider : (small large other : Rect) → ((p : Point) → Holds small p → Holds large p) → AreMeeting small other → AreMeeting large other
wider small large other covers m = record { point = m.point; in_first = covers m.point m.in_first; in_second = m.in_second }

module _ (strip : Rect) (q : Point) (within : IsInStrip strip q) where
  spot_within : (p : Point) → Holds (spot_rect q) p → Holds strip p
  spot_within p h = within.covers p (record {
    west = h.west;
    east = let a = h.east in let b = within.reach in omega (arith, ints, a, b);
    south = h.south;
    north = h.north;
  })

  enough : (chains : List MapChain) (hits : List ℕ) → ChainsAreInReach chains → AreHits (segments_before chains (length chains)) (IsTouching chains strip) hits → AreEnough chains q hits
  enough chains hits reach h = record {
    known = all_below (segments_before chains (length chains)) hits h.known;
    held = λ s x.
        let lt = below_total chains s x.c x.k x.number in
        h.once s lt (wider (spot_rect q) strip (segment_rect chains s) spot_within (holding_meets chains q s lt x));
    crossed = λ s x.
        let lt = below_total chains s x.c x.k x.number in
        let r : IsReached chains q s = reached chains q reach s x in
        h.once s lt (wider (ray_rect q) strip (segment_rect chains s) within.covers r.meets);
  }

-- what is added to nothing is enough for each point of a strip
pub enough_by : (own chains : List MapChain) (strip : Rect) (q : Point) (old new : List ℕ) → ChainsAreInReach chains → IsInStrip strip q → Adds (segments_before own (length own)) (IsTouching own strip) old new → own ≡ chains → old ≡ [] → AreEnough chains q new
enough_by own chains strip q old new reach within adds same none =
    let hits = subst (λ cs. AreHits (segments_before cs (length cs)) (IsTouching cs strip) adds.found) same adds.hits in
    let is : adds.found ≡ new = sym (adds.appended ∙ ap (λ xs. xs ++ adds.found) none) in
    subst (AreEnough chains q) is (enough strip q within chains adds.found reach hits)

-- what holds of the first ones and of the next ones holds of both
pub some_more : {X : Type 0} (P : X → Type 0) (xs : List X) (start end done : ℕ) → start ≤ end → end ≤ length xs → ((k : ℕ) → k < done → k < length xs → k < end) → ((k : ℕ) (d : X) → k < start → k < length xs → P (get_or xs k d)) → All P (take (end - start) (drop start xs)) → (k : ℕ) (d : X) → k < done → k < length xs → P (get_or xs k d)
some_more P xs start end done le within up_to before next k d lt inside = elim (cases_lt k start) [
  | inl less ↦ before k d less inside
  | inr past ↦
      let short = up_to k lt inside in
      let here : k - start < end - start = omega (arith, short, past) in
      let many : length (take (end - start) (drop start xs)) ≡ end - start =
      (let t = length-take (end - start) (drop start xs) in let r = length-drop start xs in omega (arith, t, r, le, within)) in
      let found = next (k - start) d (omega (arith, here, many)) in
      let at : start + (k - start) ≡ k = omega (arith, past) in
      subst P (get_or-take (end - start) (drop start xs) (k - start) d here ∙ get_or-drop start xs (k - start) d ∙ ap (λ i. get_or xs i d) at) found
]

-- so it holds of all where the list has ended
pub all_seen : {X : Type 0} (P : X → Type 0) (xs : List X) (done : ℕ) → length xs ≤ done → ((k : ℕ) (d : X) → k < done → k < length xs → P (get_or xs k d)) → All P xs
all_seen P xs done past h k d lt = h k d (omega (arith, lt, past)) lt

-- a rectangle that holds the strip and one ray more
pub strip_more : (strip ray wide : Rect) (sites : List Site) (i : ℕ) (e : Site) → ((k : ℕ) (d : Site) → k < i → IsInStrip strip (get_or sites k d).point) → i < length sites → ray ≡ ray_rect (get_or sites i e).point → (get_or sites i e).point.x ≤ℤ pos 2147483647 → Covers wide strip → Covers wide ray → (k : ℕ) (d : Site) → k < i + 1 → IsInStrip wide (get_or sites k d).point
strip_more strip ray wide sites i e before inside ray_is reach covers covers_ray k d lt = elim (cases_lt k i) [
  | inl less ↦ let b = before k d less in record { covers = λ p h. covers p (b.covers p h); reach = b.reach }
  | inr past ↦
      let same : i ≡ k = omega (arith, lt, past) in
      let one : get_or sites i e ≡ get_or sites k d = get_or_default sites i e d inside ∙ ap (λ j. get_or sites j d) same in
      subst (λ (site : Site). IsInStrip wide site.point) one (record { covers = subst (Covers wide) ray_is covers_ray; reach = reach })
]

pub one_more : {X : Type 0} (P : X → Type 0) (xs : List X) (i : ℕ) (e : X) → ((k : ℕ) (d : X) → k < i → P (get_or xs k d)) → i < length xs → P (get_or xs i e) → (k : ℕ) (d : X) → k < i + 1 → P (get_or xs k d)
one_more P xs i e before inside now k d lt = elim (cases_lt k i) [
  | inl less ↦ before k d less
  | inr past ↦
      let same : i ≡ k = omega (arith, lt, past) in
      subst P (get_or_default xs i e d inside ∙ ap (λ j. get_or xs j d) same) now
]

pub placed_answer : {X E : Type 0} {A C : Type 0} (B : X → Type 0) (r : Result (Option X) E) → (A → C) → IfOk r (λ found. MatchOption found A B) → IfOk r (λ found. MatchOption found C B)
placed_answer B (Ok (Some x)) f h = h
placed_answer B (Ok None) f h = f h
placed_answer B (Err e) f h = tt

-- no number is below 0
pub none_below : {A : Type 0} (i : ℕ) → i < 0 → A
none_below i lt = absurd (omega (arith, lt))

pub under : (i n m : ℕ) → i < n → n ≤ m → i < m
under i n m lt le = omega (arith, lt, le)
