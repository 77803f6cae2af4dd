-- How a sweep that decides begins, goes on at a vertex and ends.
use Rattle.std.proofs.Common.{◌≡◌, ℕ, ◌≤◌, ◌++◌, Some, List, [], length, get_or, refl, sym, ap, subst, ◌∙◌, arith}
use Rattle.tl_geom.specs.declared.point.Point.{Point}
use Rattle.tl_map_county.specs.TheMap.{TheMap}
use Rattle.tl_check_planar.specs.Keeping.Apart.{one_found}
use Rattle.tl_check_planar.specs.ByHeight.Heights.{widest}
use Rattle.tl_check_planar.specs.ByHeight.Slabs.{AreSlabsTested}
use Rattle.tl_check_active.specs.declared.events.Event.{Event}
use Rattle.tl_check_active.specs.declared.passing.BothSides.{BothSides}
use Rattle.tl_check_active.specs.Blocks.Lined.{TheLine, list_of}
use Rattle.tl_check_active.specs.Events.{AreAt, joined, before}
use Rattle.tl_check_active.specs.Gathered.{AreGathered}
use Rattle.tl_check_active.specs.Passed.{HasPassed}
use Rattle.tl_check_active.proofs.Passed.{moved}
use Rattle.tl_check_gaps.specs.declared.watch.Gaps.{Gaps}
use Rattle.tl_check_gaps.specs.Keeping.Facing.{IsCounted}
use Rattle.tl_check_gaps.specs.Keeping.Passing.{HasLooked, IsRecounted}
use Rattle.tl_check_gaps.specs.Keeping.Spotted.{AreMarks}
use Rattle.tl_check_gaps.specs.Keeping.Watched.{IsWatchedToEnd}
use Rattle.tl_check_gaps.proofs.Gone.{gone_on, all_before, risen}
use Rattle.tl_check_gaps.proofs.Slab.{begins, ends}
use Rattle.tl_check_sweep.specs.declared.sweeping.Findings.{Findings}
use Rattle.tl_check_sweep.specs.Keeping.UnderWay.{IsSweepable, IsUnderWay}
use Rattle.tl_check_sweep.proofs.Under.{begun, goes_on, ended}

pub sets_out : (asked : Gaps) (notes : Findings) (m : TheMap) (groups : List (List Event)) → IsSweepable m (joined groups) → notes.gaps ≡ Some 0 →
    AreMarks m notes.spots.marks.items → notes.watch.asked ≡ asked → notes.watch.told.items ≡ [] → IsUnderWay asked notes m groups 0 []
sets_out asked notes m groups given zero marks same none = record {
  given = given;
  swept = begins m.chains (joined groups) [] given.are refl;
  below = λ k d lt. absurd (omega (arith, lt));
  counted = λ n e. sym (one_found 0 n notes.gaps zero e);
  marks = marks;
  same = same;
  watched = begun m.chains (joined groups) [] notes.watch given.are refl none;
}

module _ (asked : Gaps) (m : TheMap) (groups : List (List Event)) (from to : ℕ) (list : List ℕ) (line : TheLine) (outs outs' ins ins' : List ℕ)
    (both : BothSides) (p : Point) (here : (e : List Event) → AreAt p (get_or groups from e)) (old new : Findings)
    (under : IsUnderWay asked old m groups from list) (gathered : AreGathered groups from to outs ins)
    (passed : HasPassed m.chains list line outs outs' ins ins' both)
    (noted : IsRecounted m.chains p passed.west outs' ins' line.back old.gaps new.gaps old.watch new.watch)
    (marks : new.spots.marks.items ≡ old.spots.marks.items) where
  after_is : list_of line ≡ (passed.west ++ ins') ++ line.back
  after_is = ap (λ f. f ++ line.back) passed.is

  counted : IsCounted m.chains new.gaps ((passed.west ++ ins') ++ line.back)
  counted = noted.counted (subst (IsCounted m.chains old.gaps) passed.was under.counted)

  looked : HasLooked m.chains p list (list_of line) new.gaps old.watch new.watch
  looked =
      subst (λ l. HasLooked m.chains p l (list_of line) new.gaps old.watch new.watch) (sym passed.was)
      (subst (λ l. HasLooked m.chains p (passed.west ++ (outs' ++ line.back)) l new.gaps old.watch new.watch) (sym after_is) (noted.looked counted))

  pub further : IsUnderWay asked new m groups to (list_of line)
  further =
      let are = under.given.are in
      let rising = under.given.rising in
      let sums = moved m.chains list line outs outs' ins ins' both passed in
      let tested = passed.tested under.swept.tested in
      record {
        given = under.given;
        swept = gone_on m.chains groups from to list (list_of line) outs ins are rising under.swept gathered sums tested;
        below = risen m.chains groups from to list (list_of line) outs ins are rising under.swept gathered sums tested p here;
        counted = subst (IsCounted m.chains new.gaps) (sym after_is) counted;
        marks = subst (AreMarks m) (sym marks) under.marks;
        same = looked.asked ∙ under.same;
        watched = goes_on m.chains groups from to list (list_of line) outs ins are rising under.swept gathered sums tested p here new.gaps old.watch new.watch
            under.watched looked;
      }

module _ (asked : Gaps) (notes : Findings) (m : TheMap) (groups : List (List Event)) (list : List ℕ)
    (under : IsUnderWay asked notes m groups (length groups) list) where
  all : length (joined groups) ≤ before (length groups) groups
  all = all_before groups (length groups) (omega arith)

  pub all_tested : AreSlabsTested widest m.chains
  all_tested = ends m.chains (joined groups) (before (length groups) groups) list under.swept all

  pub all_watched : IsWatchedToEnd m.chains notes.watch
  all_watched = ended m.chains (joined groups) (before (length groups) groups) list notes.watch all under.watched
