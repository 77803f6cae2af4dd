-- Sides agree where each walk has one side on its left.
use Rattle.std.proofs.Common.{◌≡◌, inl, inr, ℕ, zero, suc, ◌+◌, ◌-◌, ◌*◌, ◌<◌, ◌≤◌, Some, All, List, [], ◌∷◌, ◌++◌, length, take, Vec, Global, sym, ap, subst, ◌∙◌, arith}
use Rattle.std.specs.Prelude.{slice_index, slice_index_or, unwrap_or}
use Rattle.std.proofs.lemmas.Bool.{cases_lt}
use Rattle.std.proofs.lemmas.List.{get_or_default, get_or-map, length-map, take_more, take_all}
use Rattle.tl_geom.specs.declared.point.Point.{Point}
use Rattle.tl_map_county.specs.declared.sides.Side.{Side}
use Rattle.tl_map_county.specs.TheMap.{TheMap, MapChain}
use Rattle.tl_map_county.specs.Darts.{reverse_dart, dart_start, dart_left}
use Rattle.tl_check_sides.specs.Lists.{before, list_at, EachList}
use Rattle.tl_check_sides.specs.Sides.{dart_count, dart_right, IsNext, IsRing, Follows, SidesAgree}
use Rattle.tl_check_sides.specs.Walks.{AreWalks}
use Rattle.tl_check_sides.proofs.Boundaries.{back_again}
use Rattle.tl_check_sides.proofs.Headings.{dart_within}
use Rattle.tl_check_sides.proofs.ListLemmas.{IsIn, list_of}
use Rattle.tl_check_faces.specs.Crossings.Headings.{HeadApart}
use Rattle.tl_check_faces.proofs.CrossingsLemmas.Nexts.{one_next}
use Rattle.tl_check_verdict.specs.Truth.{AreAtOdds}
use Rattle.tl_build_propose.specs.Keeping.Lists.{lists_in}
use Rattle.tl_build_propose.specs.Keeping.Siding.{HasOneLeft}
use Rattle.tl_build_propose.proofs.RingLemmas.{reverse_within}

-- what stands in a ring is a dart
pub dart_in : (chains : List MapChain) (ring : List ℕ) → IsRing chains ring → (k : ℕ) → k < length ring → slice_index ring k < dart_count chains
dart_in chains ring is k h = let f : Follows chains (before ring k) (slice_index ring k) = is.follows k h in dart_within chains (slice_index ring k) f.next.node f.next.a_starts

pub darts_in : (chains : List MapChain) (ring : List ℕ) → IsRing chains ring → All (λ d. d < 2 * length chains) ring
darts_in chains ring is k d h = subst (λ x. x < dart_count chains) (get_or_default ring k 0 d h) (dart_in chains ring is k h)

-- sides that are at odds don't agree
pub odds_differ : (m : TheMap) (node : Point) (first next : ℕ) → AreAtOdds m node first next → AreAtOdds m node first next × (¬ SidesAgree m.chains)
odds_differ m node first next odds = (odds, λ agree. odds.differ (agree first next odds.is_next))

-- a ring that has two sides on its left, one behind the other
pub at_odds : (m : TheMap) (ring : List ℕ) → IsRing m.chains ring → (place last : ℕ) (node : Point) (dart other : ℕ) → last + 1 ≡ place → place < length ring → dart ≡ slice_index ring place → other ≡ slice_index ring last →
    dart_start m.chains dart ≡ Some node → ¬ (dart_left m.chains dart ≡ dart_left m.chains other) → AreAtOdds m node dart (reverse_dart other)
at_odds m ring is place last node dart other before h e f at differ =
    let one : suc last ≡ place = omega (arith, before) in
    let follows : Follows m.chains (slice_index ring last) (slice_index ring (suc last)) = is.follows (suc last) (omega (arith, before, h)) in
    record {
      at = at;
      is_next =
          subst (λ x. IsNext m.chains x (reverse_dart other)) (ap (slice_index ring) one ∙ sym e)
          (subst (λ x. IsNext m.chains (slice_index ring (suc last)) (reverse_dart x)) (sym f) follows.next);
      differ = λ same. differ (same ∙ ap (dart_left m.chains) (back_again other));
    }

-- what is so of the first one is so of all below 1
pub below_one : (P : ℕ → Type 0) → P 0 → (k : ℕ) → k < 1 → P k
below_one P first zero lt = first
below_one P first (suc k) lt = absurd (omega (arith, lt))

-- what is found of a dart is one side
pub one_given : (x y : Side) → Some x ≡ Some y → x ≡ y
one_given x y e = ap (λ o. unwrap_or o x) e

-- a walk by its place
pub walk_at : (vs : List (Vec ℕ Global)) (k : ℕ) (v : Vec ℕ Global) → k < length vs → v ≡ slice_index_or vs k v → list_at (lists_in vs) k ≡ v.items
walk_at vs k v h e = get_or-map (λ (w : Vec ℕ Global). w.items) vs k v [] h ∙ ap (λ (w : Vec ℕ Global). w.items) (sym e)

pub many_walks : (vs : List (Vec ℕ Global)) → length (lists_in vs) ≡ length vs
many_walks vs = length-map vs (λ (w : Vec ℕ Global). w.items)

pub walk_more : (vs : List (Vec ℕ Global)) (k : ℕ) (v : Vec ℕ Global) → k < length vs → v ≡ slice_index_or vs k v → take (k + 1) (lists_in vs) ≡ take k (lists_in vs) ++ v.items ∷ []
walk_more vs k v h e = take_more (lists_in vs) k [] (omega (arith, h, many_walks vs)) ∙ ap (λ xs. take k (lists_in vs) ++ xs ∷ []) (walk_at vs k v h e)

pub all_walks : (vs : List (Vec ℕ Global)) (k : ℕ) → length vs ≤ k → take k (lists_in vs) ≡ lists_in vs
all_walks vs k h = take_all k (lists_in vs) (omega (arith, h, many_walks vs))

module _ (chains : List MapChain) (apart : HeadApart chains) (walks : List (List ℕ)) (are : AreWalks chains walks) (one : EachList (HasOneLeft chains) walks) where
  module _ (a b : ℕ) (n : IsNext chains a b) (t : IsIn walks (reverse_dart b)) where
    -- the reverse of b stands before this place
    by_place : (k : ℕ) → k < length (list_at walks t.list) → before (list_at walks t.list) k ≡ reverse_dart b → dart_left chains a ≡ dart_right chains b
    by_place k h e =
        let f : Follows chains (before (list_at walks t.list) k) (slice_index (list_at walks t.list) k) = (are.rings t.list t.within).follows k h in
        let next : IsNext chains (slice_index (list_at walks t.list) k) b = subst (IsNext chains (slice_index (list_at walks t.list) k)) (ap reverse_dart e ∙ back_again b) f.next in
        let same : a ≡ slice_index (list_at walks t.list) k = one_next chains apart a (slice_index (list_at walks t.list) k) b n next in
        ap (dart_left chains) same ∙ one t.list t.within k h ∙ sym (one t.list t.within t.place t.place_within) ∙ ap (dart_left chains) t.at

    in_walk : dart_left chains a ≡ dart_right chains b
    in_walk = elim (cases_lt (t.place + 1) (length (list_at walks t.list))) [
      | inl more ↦ by_place (suc t.place) (omega (arith, more)) t.at
      | inr last ↦
          let within = t.place_within in
          let is : length (list_at walks t.list) - 1 ≡ t.place = omega (arith, last, within) in
          by_place 0 (omega (arith, within)) (ap (slice_index (list_at walks t.list)) is ∙ t.at)
    ]

  pub agree : SidesAgree chains
  agree a b n =
      let within : b < dart_count chains = dart_within chains b n.node n.b_starts in
      let once = are.hold.once (reverse_dart b) (reverse_within (length chains) b within) in
      in_walk a b n (list_of (reverse_dart b) walks (omega (arith, once)))
