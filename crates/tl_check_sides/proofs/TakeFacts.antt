-- One round more.
use Rattle.std.proofs.Common.{◌≡◌, ◌≢◌, ℕ, ◌+◌, ◌<◌, ◌≤◌, Bool, true, false, Some, List, length, get_or, set, length-set, get_or-set_same, get_or-set_other, sym, ap, refl, ◌∙◌, arith, inl, inr}
use Rattle.std.specs.Prelude.{slice_index, slice_get}
use Rattle.std.specs.Vec.{with_items, with_item}
use Rattle.std.proofs.lemmas.List.{with_items_is}
use Rattle.std.proofs.lemmas.Bool.{cases_lt, false≢true}
use Rattle.tl_geom.specs.declared.point.Point.{Point}
use Rattle.tl_map_county.specs.TheMap.{MapChain}
use Rattle.tl_map_county.specs.Darts.{dart_start}
use Rattle.tl_map_county.specs.Nodes.{AreNodes}
use Rattle.tl_tree_index.specs.Hits.{times}
use Rattle.tl_tree_index.specs.Keeping.Marked.{mark_at}
use Rattle.tl_map_county.proofs.NodeLemmas.{one_number}
use Rattle.tl_tree_index.proofs.Times.{same_or}
use Rattle.tl_tree_index.proofs.Marks.{times-at}
use Rattle.tl_check_sides.specs.declared.rounds.Rounds.{Rounds}
use Rattle.tl_check_sides.specs.Lists.{before, times_in, and_list, list_at, EachList}
use Rattle.tl_check_sides.specs.Sides.{dart_count}
use Rattle.tl_check_sides.specs.Rounds.{round_start, HasOneNode, AreHeadingsRising, IsRoundRepeated}
use Rattle.tl_check_sides.specs.Keeping.Marked.{marked_count, AddMarks, MarkLists}
use Rattle.tl_check_sides.specs.Keeping.Rounded.{AreLinked, AreHeaded, AreNodeMarks, AreSized, HaveTaken}
use Rattle.tl_check_sides.proofs.ListLemmas.{times-and, length-and, list-first, list-last, each-and, stands_in, before_stands}
use Rattle.tl_check_sides.proofs.Ends.{past}
use Rattle.tl_check_sides.proofs.NodeFacts.{starts_first, point_at, is_point}

-- ---- marks

-- lists that are marked, and one more
pub mark_more : (n : ℕ) (lists : List (List ℕ)) (old : List Bool) (xs : List ℕ) (new : List Bool) → MarkLists n lists old → AddMarks old xs new → MarkLists n (and_list lists xs) new
mark_more n lists old xs new m a = record {
  long = a.long ∙ m.long;
  marked = λ d. omega (arith, a.marked d, m.marked d, times-and d lists xs);
}

mark_bound : (marks : List Bool) (d : ℕ) → mark_at marks d ≤ 1
mark_bound marks d = go (get_or marks d false) refl
  where
    go : (b : Bool) → get_or marks d false ≡ b → mark_at marks d ≤ 1
    go true e = rw e (omega arith)
    go false e = rw e (omega arith)

-- each dart that is marked is below the number of marks, and none stands twice
pub added_below : (old : List Bool) (xs : List ℕ) (new : List Bool) (n : ℕ) → AddMarks old xs new → length old ≡ n → (k : ℕ) → k < length xs → slice_index xs k < n
added_below old xs new n a l k h = elim (cases_lt (slice_index xs k) n) [
  | inl low ↦ low
  | inr high ↦ absurd (omega (arith, high, past new (slice_index xs k) (omega (arith, a.long, l, high)), a.marked (slice_index xs k), times-at xs k h))
]

pub added_once : (old : List Bool) (xs : List ℕ) (new : List Bool) → AddMarks old xs new → (d : ℕ) → times d xs ≤ 1
added_once old xs new a d = omega (arith, a.marked d, mark_bound new d)

-- a dart of the lists is not among those that are added
pub not_added : (n : ℕ) (lists : List (List ℕ)) (old : List Bool) (xs : List ℕ) (new : List Bool) → MarkLists n lists old → AddMarks old xs new → (d : ℕ) → 1 ≤ times_in d lists → times d xs ≡ 0
not_added n lists old xs new m a d h = omega (arith, a.marked d, mark_bound new d, m.marked d, h)

-- ---- faults of one list more

pub unknown_in : (n : ℕ) (lists : List (List ℕ)) (old : List Bool) (xs : List ℕ) (d : ℕ) → length old ≡ n → (length old ≤ d) × (1 ≤ times d xs) → (n ≤ d) × (1 ≤ times_in d (and_list lists xs))
unknown_in n lists old xs d l h = (omega (arith, l, h.0), omega (arith, h.1, times-and d lists xs))

pub twice_in : (n : ℕ) (lists : List (List ℕ)) (old : List Bool) (xs : List ℕ) (d : ℕ) → MarkLists n lists old → 2 ≤ mark_at old d + times d xs → 2 ≤ times_in d (and_list lists xs)
twice_in n lists old xs d m h = omega (arith, m.marked d, h, times-and d lists xs)

-- what is wrong with the last list is wrong with the list of its number
pub last_so : (P : List ℕ → Type 0) (lists : List (List ℕ)) (xs : List ℕ) (number : ℕ) → number ≡ length lists → P xs → (number < length (and_list lists xs)) × P (list_at (and_list lists xs) number)
last_so P lists xs number e p = (omega (arith, e, length-and lists xs), rw (list-last lists xs number (sym e)) p)

module _ (chains : List MapChain) (rounds : List (List ℕ)) (round : List ℕ) where
  -- the round starts at a node that is marked
  pub repeated : (number : ℕ) (marks : List Bool) (points : List Point) (k : ℕ) → number ≡ length rounds → 0 < length round → AreNodeMarks chains rounds marks → ((nodes : List Point) → AreNodes chains nodes → slice_get nodes k ≡ dart_start chains (slice_index round 0)) → ((nodes : List Point) → AreNodes chains nodes → k < length nodes) → get_or marks k false ≡ true → IsRoundRepeated chains (and_list rounds round) number
  repeated number marks points k e some m start within marked =
      let r = m.some_round k marked in
      let here : slice_get m.points k ≡ Some (point_at m.points k) = is_point m.points k (within m.points m.are) in
      record {
        within = omega (arith, e, length-and rounds round);
        earlier = r.0;
        is_earlier = omega (arith, e, r.1);
        node = point_at m.points k;
        earlier_starts = rw (list-first rounds round r.0 r.1) (r.2 ∙ here);
        starts = rw (list-last rounds round number (sym e)) (starts_first chains round some ∙ sym (start m.points m.are) ∙ here);
      }

  -- the nodes where the rounds start are marked, with that of one more
  pub nodes_more : (marks : List Bool) (k : ℕ) → 0 < length round → AreNodeMarks chains rounds marks → ((nodes : List Point) → AreNodes chains nodes → slice_get nodes k ≡ dart_start chains (slice_index round 0)) → ((nodes : List Point) → AreNodes chains nodes → k < length nodes) → AreNodeMarks chains (and_list rounds round) (set marks k true)
  nodes_more marks k some m start within =
      let lt : k < length marks = omega (arith, within m.points m.are, m.long) in
      record {
        points = m.points;
        are = m.are;
        long = length-set marks k true ∙ m.long;
        some_round = λ j marked. same_or j k
            (λ e. (length rounds, omega (arith, length-and rounds round), rw (list-last rounds round (length rounds) refl, e) (starts_first chains round some ∙ sym (start m.points m.are))))
            (λ ne.
            let old = m.some_round j (sym (get_or-set_other marks k j true false ne) ∙ marked) in
            (old.0, omega (arith, old.1, length-and rounds round), rw (list-first rounds round old.0 old.1) old.2));
        each_round = λ r j hr hj e. same_or j k
            (λ same. rw same (get_or-set_same marks k true false lt))
            (λ ne. get_or-set_other marks k j true false ne ∙ elim (cases_lt r (length rounds)) [
              | inl earlier ↦ m.each_round r j earlier hj (rw (list-first rounds round r earlier) at e)
              | inr last ↦ absurd (
                  let is_last : length rounds ≡ r = omega (arith, last, hr, length-and rounds round) in
                  let f : slice_get m.points j ≡ dart_start chains (slice_index round 0) = sym e ∙ ap (round_start chains) (list-last rounds round r is_last) ∙ starts_first chains round some in
                  ne ((one_number (dart_start chains) m.points (slice_index round 0) (slice_index round 0) j k m.are hj f (start m.points m.are)).1 refl))
            ]);
      }

  -- no two rounds of one node, where that of one more was not marked
  pub apart_more : (marks : List Bool) (k : ℕ) → 0 < length round → AreNodeMarks chains rounds marks → ((nodes : List Point) → AreNodes chains nodes → slice_get nodes k ≡ dart_start chains (slice_index round 0)) → ((nodes : List Point) → AreNodes chains nodes → k < length nodes) → get_or marks k false ≡ false → ((r s : ℕ) (node : Point) → r < s → s < length rounds → round_start chains (list_at rounds r) ≡ Some node → round_start chains (list_at rounds s) ≢ Some node) → (r s : ℕ) (node : Point) → r < s → s < length (and_list rounds round) → round_start chains (list_at (and_list rounds round) r) ≡ Some node → round_start chains (list_at (and_list rounds round) s) ≢ Some node
  apart_more marks k some m start within unmarked apart r s node hr hs er es =
      let earlier : r < length rounds = omega (arith, hr, hs, length-and rounds round) in
      let first : round_start chains (list_at rounds r) ≡ Some node = rw (list-first rounds round r earlier) at er in
      elim (cases_lt s (length rounds)) [
        | inl both ↦ apart r s node hr both first (rw (list-first rounds round s both) at es)
        | inr last ↦
            let is_last : length rounds ≡ s = omega (arith, last, hs, length-and rounds round) in
            let here : slice_get m.points k ≡ Some node = start m.points m.are ∙ sym (starts_first chains round some) ∙ sym (ap (round_start chains) (list-last rounds round s is_last)) ∙ es in
            let marked : get_or marks k false ≡ true = m.each_round r k earlier (within m.points m.are) (first ∙ sym here) in
            false≢true (sym unmarked ∙ marked)
      ]

  -- what was linked is linked still
  pub linked_more : (n : ℕ) (old new : List ℕ) (before_marks marks : List Bool) → MarkLists n rounds before_marks → AddMarks before_marks round marks → EachList (AreLinked old) rounds → AreLinked new round → ((d : ℕ) → times d round ≡ 0 → slice_index new d ≡ slice_index old d) → EachList (AreLinked new) (and_list rounds round)
  linked_more n old new before_marks marks m a linked here others =
      each-and (AreLinked new) rounds round
      (λ r hr k hk.
      let d = before (list_at rounds r) k in
      let stands : 1 ≤ times_in d rounds = omega (arith, stands_in d rounds r hr, before_stands (list_at rounds r) k hk) in
      others d (not_added n rounds before_marks round marks m a d stands) ∙ linked r hr k hk)
      here

  -- one round more was taken
  pub taken_more : (old new : Rounds) (k : ℕ) → HaveTaken chains rounds old → 0 < length round → AddMarks old.marks.items round new.marks.items → new.nodes.items ≡ set old.nodes.items k true → new.taken ≡ old.taken + 1 → ((nodes : List Point) → AreNodes chains nodes → slice_get nodes k ≡ dart_start chains (slice_index round 0)) → ((nodes : List Point) → AreNodes chains nodes → k < length nodes) → get_or old.nodes.items k false ≡ false → HasOneNode chains round → AreHeadingsRising chains round → AreHeaded chains round → AreLinked new.next.items round → ((d : ℕ) → times d round ≡ 0 → slice_index new.next.items d ≡ slice_index old.next.items d) → HaveTaken chains (and_list rounds round) new
  taken_more old new k t some added nodes taken start within unmarked one_node rising headed linked others = record {
    taken = omega (arith, taken, t.taken, length-and rounds round);
    marks = mark_more (dart_count chains) rounds old.marks.items round new.marks.items t.marks added;
    nodes = rw nodes (nodes_more old.nodes.items k some t.nodes start within);
    one_node = each-and (HasOneNode chains) rounds round t.one_node one_node;
    rising = each-and (AreHeadingsRising chains) rounds round t.rising rising;
    headed = each-and (AreHeaded chains) rounds round t.headed headed;
    linked = linked_more (dart_count chains) old.next.items new.next.items old.marks.items new.marks.items t.marks added t.linked linked others;
    apart = apart_more old.nodes.items k some t.nodes start within unmarked t.apart;
  }

-- rounds stay sized where their marks become no fewer
sized_marked : (chains : List MapChain) (s : Rounds) (marks : List Bool) → AreSized chains s → length marks ≡ length s.marks.items → marked_count s.marks.items ≤ marked_count marks → AreSized chains (record { next = s.next; marks = with_items s.marks marks; nodes = s.nodes; taken = s.taken })
sized_marked chains s marks sized long more =
    let is : (with_items s.marks marks).items ≡ marks = with_items_is s.marks marks (long ∙ sym s.marks.ok.0) in
    record {
      next = sized.next;
      marks = ap length is ∙ long ∙ sized.marks;
      points = sized.points;
      are = sized.are;
      nodes = sized.nodes;
      few = sized.few;
      taken = omega (arith, sized.taken, more, ap marked_count is);
    }

-- and where marks are added that a round came with
pub sized_still : (chains : List MapChain) (s : Rounds) (before marks : List Bool) → AreSized chains s → before ≡ s.marks.items → length marks ≡ length before → marked_count before ≤ marked_count marks → AreSized chains (record { next = s.next; marks = with_items s.marks marks; nodes = s.nodes; taken = s.taken })
sized_still chains s before marks sized is long more = sized_marked chains s marks sized (long ∙ ap length is) (omega (arith, more, ap marked_count is))

-- and where a round more is taken
pub sized_more : (chains : List MapChain) (s : Rounds) (next round : List ℕ) (marks : List Bool) (k : ℕ) → AreSized chains s → 0 < length round → length next ≡ length s.next.items → AddMarks s.marks.items round marks → AreSized chains (record { next = with_items s.next next; marks = with_items s.marks marks; nodes = with_item s.nodes k true; taken = s.taken + 1 })
sized_more chains s next round marks k sized some long added =
    let is : (with_items s.marks marks).items ≡ marks = with_items_is s.marks marks (added.long ∙ sym s.marks.ok.0) in
    record {
      next = ap length (with_items_is s.next next (long ∙ sym s.next.ok.0)) ∙ long ∙ sized.next;
      marks = ap length is ∙ added.long ∙ sized.marks;
      points = sized.points;
      are = sized.are;
      nodes = length-set s.nodes.items k true ∙ sized.nodes;
      few = sized.few;
      taken = omega (arith, sized.taken, some, added.count, ap marked_count is);
    }
