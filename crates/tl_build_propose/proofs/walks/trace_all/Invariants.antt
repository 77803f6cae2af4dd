use Rattle.std.proofs.Common.{◌≡◌, ℕ, zero, ◌<◌, length, map}
use Rattle.std.specs.List.{All, concat}
use Rattle.tl_tree_index.specs.Keeping.Marked.{mark_at}
use Rattle.tl_check_sides.specs.Keeping.Marked.{marked_count, MarkLists}
use Rattle.tl_build_propose.specs.Keeping.Following.{IsOneToOne, AreFollowed, GoesBy}
use Rattle.tl_build_propose.proofs.walks.trace_all.Given as goal

-- the darts of the walks so far are taken, and each dart before the first that is left is
abbrev pub invariant-loop-first : goal.invariant-loop-first
invariant-loop-first l =
    record {
      marks : MarkLists (length l.following) (map (λ w. w.items) l.walks.items) l.taken;
      before : (d : ℕ) → d < l.first → mark_at l.taken d ≡ 1;
      some : All (λ w. zero < length w.items) l.walks.items;
      followed : IsOneToOne l.following → AreFollowed l.following l.taken;
      goes : IsOneToOne l.following → All (λ w. GoesBy l.following w.items) l.walks.items;
      count : length (concat (map (λ w. w.items) l.walks.items)) ≡ marked_count l.taken;
    }
