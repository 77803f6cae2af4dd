-- Where facing sides agree along the list of each slab, they do so along each line that is steep enough.
use Rattle.std.proofs.Common.{◌≡◌, ◌⊎◌, inl, inr, ⊎_elim, ℕ, ◌≤◌, ℤ, pos, ◌≤ℤ◌, Bool, if◌then◌else◌, List, [], ◌∷◌, refl, sym, ap, subst, ◌∙◌}
use Rattle.std.specs.Prelude.{All}
use Rattle.tl_geom.specs.declared.point.Point.{Point}
use Rattle.tl_geom.specs.declared.rational.Rational.{Rational}
use Rattle.tl_geom.specs.Plane.{turn_of}
use Rattle.tl_map_county.specs.declared.sides.Side.{Side}
use Rattle.tl_map_county.specs.declared.sides.Side.TheVariants.{Outside}
use Rattle.tl_map_county.specs.TheMap.{MapChain}
use Rattle.tl_tree_index.specs.Hits.{times}
use Rattle.tl_check_planar.specs.Planar.{IsPlanar}
use Rattle.tl_check_planar.proofs.Numbering.{below_total}
use Rattle.tl_check_planar.specs.ByHeight.Heights.{low_end, high_end}
use Rattle.tl_check_planar.specs.ByHeight.Neighbours.{IsWestOf, AreTested, EachTwo}
use Rattle.tl_check_planar.specs.ByHeight.Slabs.{IsActive, IsListOf}
use Rattle.tl_check_planar.proofs.ByHeight.Walking.{all_head, all_tail}
use Rattle.tl_check_faces.specs.Lists.{west_side, east_side, AreFacingFrom, AreSlabsFacing, AreAllNear}
use Rattle.tl_check_faces.proofs.Steep.{IsSpanned}
use Rattle.tl_check_faces.proofs.Bounds.{IsSteep}
use Rattle.tl_check_faces.proofs.Lines.{met}
use Rattle.tl_check_faces.proofs.Items.{Item, item_with, numbered, ends, IsLine}
use Rattle.tl_check_faces.proofs.Sorting.{numbers}
use Rattle.tl_check_faces.proofs.Toward.{near_side, far_side}
use Rattle.tl_check_faces.proofs.Along.{AreFacing, IsFacedOn, AreFaced}
use Rattle.tl_check_faces.proofs.Tested.{sorted_items, items_of, numbers_of, at_most_once}
use Rattle.tl_check_faces.proofs.Slab.{IsParting, parting, same_rise, same_low, same_high, own_near, active_by, spanned_by_active}

module _ (K : ℤ) (chains : List MapChain) (near : AreAllNear K chains) (planar : IsPlanar chains) (L : ℤ) (r : Rational) (steep : IsSteep L chains r) (line : IsLine L chains r) (n : ℤ) (parts : IsParting K chains near r n) where
  -- ---- the item of an active segment

  item : (s : ℕ) → IsActive K n chains s → Item L chains r
  item s a =
      let spanned : IsSpanned L a.segment r = spanned_by_active K chains near L r steep line n parts s a.segment a.is a.begun a.lasting in
      item_with L chains r s a.segment a.is spanned (met L a.segment r (ends L chains r line s a.segment a.is) spanned)

  item_number : (s : ℕ) (a : IsActive K n chains s) → (item s a).s ≡ s
  unfolding item
  item_number s a = refl

  abbrev items : (list : List ℕ) → All (IsActive K n chains) list → List (Item L chains r)
  items list active = items_of L chains r (IsActive K n chains) item list active

  numbers_are : (list : List ℕ) (active : All (IsActive K n chains) list) → numbers L chains r (items list active) ≡ list
  numbers_are list active = numbers_of L chains r (IsActive K n chains) item item_number list active

  -- ---- neighbours that were tested stand from west to east

  low_same : (x : Item L chains r) → low_end K x.segment ≡ low_end L x.segment
  low_same x = let m = numbered L chains r x in same_low K L x.segment (own_near K chains near L r steep line n parts x.s x.segment m) (steep.ends x.s x.segment m)

  high_same : (x : Item L chains r) → high_end K x.segment ≡ high_end L x.segment
  high_same x = let m = numbered L chains r x in same_high K L x.segment (own_near K chains near L r steep line n parts x.s x.segment m) (steep.ends x.s x.segment m)

  -- the test by the one height is that by the other
  west_same : (x y : Item L chains r) → IsWestOf K x.segment y.segment → IsWestOf L x.segment y.segment
  west_same x y west = record {
    below = by (low_end K x.segment) (low_end L x.segment) (low_end K y.segment) (low_end L y.segment) (low_end K x.segment) (low_end L x.segment) (low_end K y.segment) (low_end L y.segment)
        (high_end K x.segment) (high_end L x.segment) (high_end K y.segment) (high_end L y.segment) (low_same x) (low_same y) (low_same x) (low_same y) (high_same x) (high_same y) west.below;
    above = by (high_end K x.segment) (high_end L x.segment) (high_end K y.segment) (high_end L y.segment) (low_end K x.segment) (low_end L x.segment) (low_end K y.segment) (low_end L y.segment)
        (high_end K x.segment) (high_end L x.segment) (high_end K y.segment) (high_end L y.segment) (high_same x) (high_same y) (low_same x) (low_same y) (high_same x) (high_same y) west.above;
  }
    where
      by : (p p' q q' a a' b b' c c' d d' : Point) → p ≡ p' → q ≡ q' → a ≡ a' → b ≡ b' → c ≡ c' → d ≡ d' → (pos 0 ≤ℤ turn_of b d p) ⊎ (turn_of a c q ≤ℤ pos 0) → (pos 0 ≤ℤ turn_of b' d' p') ⊎ (turn_of a' c' q' ≤ℤ pos 0)
      by p p' q q' a a' b b' c c' d d' ep eq ea eb ec ed = ⊎_elim
          (λ h. inl (subst (λ z. pos 0 ≤ℤ z) (λ i. turn_of (eb i) (ed i) (ep i)) h))
          (λ h. inr (subst (λ z. z ≤ℤ pos 0) (λ i. turn_of (ea i) (ec i) (eq i)) h))

  -- ---- facing sides

  near_is : (s : ℕ) (a : IsActive K n chains s) → west_side K a.is.joins.chain a.segment ≡ near_side L chains r line (item s a)
  unfolding item
  near_is s a = ap (λ (t : Bool). if t then a.is.joins.chain.left else a.is.joins.chain.right) (same_rise K L a.segment (own_near K chains near L r steep line n parts s a.segment a.is) (steep.ends s a.segment a.is))

  far_is : (s : ℕ) (a : IsActive K n chains s) → east_side K a.is.joins.chain a.segment ≡ far_side L chains r line (item s a)
  unfolding item
  far_is s a = ap (λ (t : Bool). if t then a.is.joins.chain.right else a.is.joins.chain.left) (same_rise K L a.segment (own_near K chains near L r steep line n parts s a.segment a.is) (steep.ends s a.segment a.is))

  facing_items : (list : List ℕ) (active : All (IsActive K n chains) list) (west : Side) → AreFacingFrom K chains west list → AreFacing L chains r line west (items list active)
  facing_items [] active west facing = facing
  facing_items (s ∷ list) active west facing =
      let a : IsActive K n chains s = all_head (IsActive K n chains) s list active in
      let here = facing a.segment a.is in (
        here.0 ∙ near_is s a,
        facing_items list (all_tail (IsActive K n chains) s list active) (far_side L chains r line (item s a)) (subst (λ side. AreFacingFrom K chains side list) (far_is s a) here.1),
      )

  -- ---- the whole list

  of_slab : (list : List ℕ) → IsListOf K n chains list → AreFacingFrom K chains Outside list → IsFacedOn L chains r line
  of_slab list of facing = record {
    items = items list of.active;
    listed = record {
      sorted = sorted_items L chains planar r line K west_same (items list of.active)
          (subst (EachTwo (AreTested K chains)) (sym (numbers_are list of.active)) of.tested)
          (λ s. subst (λ l. times s l ≤ 1) (sym (numbers_are list of.active)) (at_most_once K n chains list of s));
      below = λ y h. let m = numbered L chains r y in below_total chains y.s m.c m.k m.number;
      once = λ s u lt is spanned. ap (times s) (numbers_are list of.active) ∙ of.once s (active_by K chains near L r steep line n parts s u is spanned);
    };
    along = facing_items list of.active Outside facing;
  }

pub by_slabs : (K : ℤ) (chains : List MapChain) → AreAllNear K chains → IsPlanar chains → AreSlabsFacing K chains → AreFaced chains
by_slabs K chains near planar slabs L r steep line =
    let parts : (n : ℤ) × IsParting K chains near r n = parting K chains near r in
    let list : (list : List ℕ) × IsListOf K parts.0 chains list × AreFacingFrom K chains Outside list = slabs parts.0 in
    of_slab K chains near planar L r steep line parts.0 parts.1 list.0 list.1 list.2
