-- Walks, dart by dart and one after the other.
use Rattle.std.proofs.Common.{◌≡◌, ℕ, suc, ◌+◌, ◌-◌, ◌<◌, ◌≤◌, Bool, List, length, ap, sym, subst, ◌∙◌, arith, inl, inr}
use Rattle.std.specs.Vec.{with_items}
use Rattle.std.proofs.lemmas.List.{with_items_is}
use Rattle.std.specs.Prelude.{slice_index}
use Rattle.std.proofs.lemmas.Bool.{cases_lt}
use Rattle.tl_map_county.specs.TheMap.{MapChain}
use Rattle.tl_check_sides.specs.declared.walks.Walks.{Walks}
use Rattle.tl_check_sides.specs.Lists.{before, and_list}
use Rattle.tl_check_sides.specs.Sides.{dart_count, Follows, IsRing}
use Rattle.tl_check_sides.specs.Walks.{HasWrongStep, IsOpen}
use Rattle.tl_check_sides.specs.Keeping.Marked.{marked_count, AddMarks}
use Rattle.tl_check_sides.specs.Keeping.Walked.{AreReady, HaveWalked}
use Rattle.tl_check_sides.proofs.ListLemmas.{length-and, each-and}
use Rattle.tl_check_sides.proofs.TakeFacts.{mark_more}

-- the first k darts of a walk each follow the one before them
pub record StepsSoFar (chains : List MapChain) (walk : List ℕ) (place : ℕ) : Type 0 where
  pub low : 0 < place
  pub follows : (k : ℕ) → k < place → Follows chains (before walk k) (slice_index walk k)

pub step_first : (chains : List MapChain) (walk : List ℕ) → Follows chains (slice_index walk (length walk - 1)) (slice_index walk 0) → StepsSoFar chains walk 1
step_first chains walk f = record {
  low = omega arith;
  follows = λ k h. let e : 0 ≡ k = omega (arith, h) in subst (λ j. Follows chains (before walk j) (slice_index walk j)) e f;
}

pub step_more : (chains : List MapChain) (walk : List ℕ) (place : ℕ) → StepsSoFar chains walk place → Follows chains (slice_index walk (place - 1)) (slice_index walk place) → StepsSoFar chains walk (place + 1)
step_more chains walk place so f = record {
  low = omega arith;
  follows = λ k h. elim (cases_lt k place) [
    | inl earlier ↦ so.follows k earlier
    | inr last ↦
        let low = so.low in
        let same : place ≡ k = omega (arith, h, last) in
        let back : suc (place - 1) ≡ place = omega (arith, low) in
        let g : Follows chains (before walk (suc (place - 1))) (slice_index walk place) = f in
        let here : Follows chains (before walk place) (slice_index walk place) = subst (λ j. Follows chains (before walk j) (slice_index walk place)) back g in
        subst (λ j. Follows chains (before walk j) (slice_index walk j)) same here
  ];
}

pub wrong_at : (chains : List MapChain) (walk : List ℕ) (place : ℕ) → StepsSoFar chains walk place → place < length walk → ((k : ℕ) → k < length walk → slice_index walk k < dart_count chains) → ¬ Follows chains (slice_index walk (place - 1)) (slice_index walk place) → HasWrongStep chains walk
wrong_at chains walk place so h darts not =
    let low = so.low in
    let back : place ≡ suc (place - 1) = omega (arith, low) in
    record {
      place = place - 1;
      within = omega (arith, low, h);
      wrong = record {
        is_dart = darts (place - 1) (omega (arith, low, h));
        other_is_dart = darts (suc (place - 1)) (omega (arith, low, h));
        not = subst (λ j. ¬ Follows chains (slice_index walk (place - 1)) (slice_index walk j)) back not;
      };
    }

pub is_ring : (chains : List MapChain) (walk : List ℕ) (place : ℕ) → StepsSoFar chains walk place → 0 < length walk → length walk ≤ place → IsRing chains walk
is_ring chains walk place so some h = record { some = some; follows = λ k l. so.follows k (omega (arith, l, h)) }

-- one walk more was taken
pub walked_more : (chains : List MapChain) (walks : List (List ℕ)) (walk : List ℕ) (old new : Walks) → HaveWalked chains walks old → AddMarks old.marks.items walk new.marks.items → new.taken ≡ old.taken + 1 → IsRing chains walk → HaveWalked chains (and_list walks walk) new
walked_more chains walks walk old new t added taken ring = record {
  taken = omega (arith, taken, t.taken, length-and walks walk);
  marks = mark_more (dart_count chains) walks old.marks.items walk new.marks.items t.marks added;
  rings = each-and (IsRing chains) walks walk t.rings ring;
}

-- walks stay ready where their marks become no fewer
pub ready_marked : (chains : List MapChain) (s : Walks) (marks : List Bool) (taken : ℕ) → AreReady chains s → length marks ≡ length s.marks.items → taken ≤ marked_count marks → AreReady chains (record { next = s.next; marks = with_items s.marks marks; taken = taken })
ready_marked chains s marks taken ready long low =
    let is : (with_items s.marks marks).items ≡ marks = with_items_is s.marks marks (long ∙ sym s.marks.ok.0) in
    record {
      next = ready.next;
      marks = ap length is ∙ long ∙ ready.marks;
      few = ready.few;
      taken = omega (arith, low, ap marked_count is);
    }

-- and so they do where marks are added that their darts came with
pub ready_still : (chains : List MapChain) (s : Walks) (before marks : List Bool) → AreReady chains s → before ≡ s.marks.items → length marks ≡ length before → marked_count before ≤ marked_count marks → AreReady chains (record { next = s.next; marks = with_items s.marks marks; taken = s.taken })
ready_still chains s before marks ready is long more =
    ready_marked chains s marks s.taken ready (long ∙ ap length is) (omega (arith, ready.taken, more, ap marked_count is))

-- one walk more is counted
pub ready_more : (chains : List MapChain) (s : Walks) (walk : List ℕ) (marks : List Bool) → AreReady chains s → 0 < length walk → AddMarks s.marks.items walk marks → AreReady chains (record { next = s.next; marks = with_items s.marks marks; taken = s.taken + 1 })
ready_more chains s walk marks ready some added =
    ready_marked chains s marks (s.taken + 1) ready added.long (omega (arith, ready.taken, some, added.count))

-- its first dart doesn't follow its last
pub open_at : (chains : List MapChain) (walk : List ℕ) → 0 < length walk → ((k : ℕ) → k < length walk → slice_index walk k < dart_count chains) → ¬ Follows chains (slice_index walk (length walk - 1)) (slice_index walk 0) → IsOpen chains walk
open_at chains walk some darts not = record { some = some; wrong = record { is_dart = darts (length walk - 1) (omega (arith, some)); other_is_dart = darts 0 some; not = not } }
