-- What marks say once no dart is missing, and while rounds and walks are taken.
use Rattle.std.proofs.Common.{◌≡◌, ℕ, ◌<◌, ◌≤◌, Bool, false, cond, List, length, sym, ap, ◌∙◌, arith}
use Rattle.std.proofs.lemmas.List.{get_or_past}
use Rattle.std.specs.Prelude.{slice_index}
use Rattle.tl_map_county.specs.TheMap.{MapChain}
use Rattle.tl_tree_index.specs.Keeping.Marked.{mark_at}
use Rattle.tl_check_sides.specs.declared.next.Next.{Next}
use Rattle.tl_check_sides.specs.declared.rounds.Rounds.{Rounds}
use Rattle.tl_check_sides.specs.Lists.{HoldOnce}
use Rattle.tl_check_sides.specs.Sides.{dart_count, IsNext}
use Rattle.tl_check_sides.specs.Keeping.Marked.{MarkLists}
use Rattle.tl_check_sides.specs.Keeping.Rounded.{HaveTaken, KeepNext}
use Rattle.tl_check_sides.proofs.Headings.{dart_within}
use Rattle.tl_check_sides.proofs.WholeRounds.{AreWhole, is_next, no_other}

pub past : (marks : List Bool) (d : ℕ) → length marks ≤ d → mark_at marks d ≡ 0
past marks d h = ap (λ t. cond t 1 0) (get_or_past marks d false h)

-- lists whose darts are marked, where no mark is missing, hold each dart once
pub hold_once : (n : ℕ) (lists : List (List ℕ)) (marks : List Bool) → MarkLists n lists marks → ((d : ℕ) → d < length marks → mark_at marks d ≡ 1) → HoldOnce n lists
hold_once n lists marks m all = record {
  once = λ d h. sym (m.marked d) ∙ all d (omega (arith, h, m.long));
  no_other = λ d h. sym (m.marked d) ∙ past marks d (omega (arith, h, m.long));
}

pub whole_of : (chains : List MapChain) (rounds : List (List ℕ)) (s : Rounds) → HaveTaken chains rounds s → HoldOnce (dart_count chains) rounds → AreWhole chains rounds s.next.items
whole_of chains rounds s t hold = record {
  all = record { hold = hold; one_node = t.one_node; rising = t.rising; headed = t.headed; apart = t.apart };
  linked = t.linked;
}

pub keep_next : (chains : List MapChain) (rounds : List (List ℕ)) (n : Next) → length n.next.items ≡ dart_count chains → AreWhole chains rounds n.next.items → KeepNext chains n
keep_next chains rounds n long whole = record {
  long = long;
  below = λ d h. let s : IsNext chains d (slice_index n.next.items d) = is_next chains rounds n.next.items whole d h in dart_within chains (slice_index n.next.items d) s.node s.b_starts;
  is_next = is_next chains rounds n.next.items whole;
  no_other = no_other chains rounds n.next.items whole;
}
