-- Rounds and the nodes where they start.
use Rattle.std.proofs.Common.{◌≡◌, ℕ, ◌+◌, ◌<◌, pos, Some, List, length, get_or, sym, ap, ◌∙◌, arith, inl, inr}
use Rattle.std.specs.Prelude.{slice_get, slice_index}
use Rattle.std.specs.Option.{option_and_then}
use Rattle.std.proofs.lemmas.Bool.{cases_lt}
use Rattle.std.proofs.lemmas.Option.{slice_get-get_or}
use Rattle.tl_geom.specs.declared.point.Point.{Point}
use Rattle.tl_map_county.specs.TheMap.{MapChain}
use Rattle.tl_map_county.specs.Darts.{dart_start}
use Rattle.tl_map_county.specs.Nodes.{AreNodes}
use Rattle.tl_map_county.proofs.NodeLemmas.{one_number}
use Rattle.tl_check_sides.specs.Rounds.{round_start, HasTwoNodes}

-- a round starts where its first dart does
pub starts_first : (chains : List MapChain) (round : List ℕ) → 0 < length round → round_start chains round ≡ dart_start chains (slice_index round 0)
starts_first chains round h = ap (option_and_then (dart_start chains)) (slice_get-get_or round 0 0 h)

pub point_at : List Point → ℕ → Point
point_at points n = get_or points n (record { x = pos 0; y = pos 0 })

pub is_point : (points : List Point) (n : ℕ) → n < length points → slice_get points n ≡ Some (point_at points n)
unfolding point_at
is_point points n h = slice_get-get_or points n (record { x = pos 0; y = pos 0 }) h

-- darts of two nodes start at two points
pub two_nodes : (chains : List MapChain) (points : List Point) (round : List ℕ) (k n m : ℕ) → AreNodes chains points → k < length round → n < length points → m < length points → slice_get points n ≡ dart_start chains (slice_index round 0) → slice_get points m ≡ dart_start chains (slice_index round k) → (m ≡ n → ⊥) → HasTwoNodes chains round
two_nodes chains points round k n m are hk hn hm en em ne = record {
  place = k;
  within = hk;
  one = point_at points n;
  other = point_at points m;
  first_starts = starts_first chains round (omega (arith, hk)) ∙ sym en ∙ is_point points n hn;
  place_starts = sym em ∙ is_point points m hm;
  differ = λ same.
      let starts : dart_start chains (slice_index round 0) ≡ dart_start chains (slice_index round k) = sym en ∙ is_point points n hn ∙ ap Some same ∙ sym (is_point points m hm) ∙ em in
      ne (sym ((one_number (dart_start chains) points (slice_index round 0) (slice_index round k) n m are hn en em).1 starts));
}

-- darts with one number of a node start at one point
pub one_node_more : (chains : List MapChain) (points : List Point) (round : List ℕ) (place n m : ℕ) → slice_get points n ≡ dart_start chains (slice_index round 0) → slice_get points m ≡ dart_start chains (slice_index round place) → m ≡ n → ((k : ℕ) → k < place → dart_start chains (slice_index round k) ≡ dart_start chains (slice_index round 0)) → (k : ℕ) → k < place + 1 → dart_start chains (slice_index round k) ≡ dart_start chains (slice_index round 0)
one_node_more chains points round place n m en em same before k h = elim (cases_lt k place) [
  | inl earlier ↦ before k earlier
  | inr last ↦
      let here : k ≡ place = omega (arith, h, last) in
      ap (λ j. dart_start chains (slice_index round j)) here ∙ sym em ∙ ap (slice_get points) same ∙ en
]
