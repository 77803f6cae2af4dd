use Rattle.std.proofs.Common.{◌≡◌, ℕ, ◌<◌, ◌≤◌, All, length, get_or}
use Rattle.tl_map.specs.declared.landmarks.Link.{Link}
use Rattle.tl_map.specs.Keeping.Landmarks.{AreRows}
use Rattle.tl_map.proofs.landmarks.append_rows.Given as goal

abbrev pub invariant-loop-landmark : goal.invariant-loop-landmark
invariant-loop-landmark l = record {
  within : l.start ≤ length l.links;
  behind : (k : ℕ) (d : Link) → k < l.start → (get_or l.links k d).landmark < l.landmark;
  ahead : (k : ℕ) (d : Link) → l.start ≤ k → k < length l.links → l.landmark ≤ (get_or l.links k d).landmark;
  marks : length l.marks ≡ length l.fn.marks;
  fresh : All (λ n. n ≤ l.landmark) l.marks;
  rows : AreRows l.links l.landmark l.linked.items l.rows.items;
}
