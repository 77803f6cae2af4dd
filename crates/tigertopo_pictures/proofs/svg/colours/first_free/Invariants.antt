use Rattle.std.proofs.Common.{◌≡◌, ℕ, ◌-◌, ◌<◌, ◌≤◌, length}
use Rattle.std.specs.Prelude.{slice_index}
use Rattle.tigertopo_pictures.proofs.svg.colours.first_free.Given as goal

abbrev pub invariant-loop-colour : goal.invariant-loop-colour
invariant-loop-colour l = record {
  within : l.colour ≤ length l.marks;
  first : (c : ℕ) → c < l.colour → slice_index l.marks c ≡ l.polygon;
}

abbrev pub decreases-loop-colour : goal.decreases-loop-colour
decreases-loop-colour l = length l.marks - l.colour
