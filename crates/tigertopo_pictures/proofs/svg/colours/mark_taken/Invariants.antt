use Rattle.std.proofs.Common.{◌≡◌, ℕ, ◌-◌, ◌<◌, ◌≤◌, List, Option, length}
use Rattle.std.specs.Prelude.{slice_index}
use Rattle.tigertopo_pictures.specs.Groups.{AreGroups, places}
use Rattle.tigertopo_pictures.specs.Svg.Colours.{AreLefts, IsTaken}
use Rattle.tigertopo_pictures.proofs.SvgLemmas.ColourLemmas.{Passed, Marks}
use Rattle.tigertopo_pictures.proofs.svg.colours.mark_taken.Given as goal

abbrev pub invariant-loop-at : goal.invariant-loop-at
invariant-loop-at l = record {
  len : length l.marks.items ≡ length l.initial.marks.items;
  way : (lefts : List (Option ℕ)) → AreLefts l.map.chains lefts → AreGroups (length l.map.polygons) lefts l.darts
      → Passed (Marks l.map.chains l.colours l.polygon l.marks.items) l.darts.next l.at (places l.polygon lefts);
  taken : (c : ℕ) → c < length l.marks.items → slice_index l.marks.items c ≡ l.polygon → IsTaken l.map.chains l.colours l.polygon c;
  bound : (c : ℕ) → c < length l.marks.items → slice_index l.marks.items c ≤ l.polygon;
}

abbrev pub decreases-loop-at : goal.decreases-loop-at
decreases-loop-at l = length l.darts.next - l.at
