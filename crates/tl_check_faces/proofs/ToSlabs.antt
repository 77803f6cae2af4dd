-- On planar chains each slab has a list of which neighbours are tested; and where faces agree, facing sides agree along it.
use Rattle.std.proofs.Common.{◌≡◌, inl, ℕ, ℤ, pos, ◌+ℤ◌, ◌-ℤ◌, ◌*ℤ◌, ◌<ℤ◌, if◌then◌else◌, Some, List, [], ◌∷◌, length, refl, sym, subst, ◌∙◌, arith}
use Rattle.std.specs.Prelude.{int_lt, slice_get}
use Rattle.std.proofs.lemmas.Int.{ints}
use Rattle.tl_geom.specs.declared.point.Point.{Point}
use Rattle.tl_geom.specs.declared.rational.Rational.{Rational}
use Rattle.tl_geom.specs.declared.segment.Segment.{Segment}
use Rattle.tl_geom.specs.Plane.{IsOn}
use Rattle.tl_geom.proofs.Polynomials.{num, ◌⊕◌, ◌⊖◌, ◌⊗◌, same}
use Rattle.tl_map_county.specs.declared.sides.Side.{Side}
use Rattle.tl_map_county.specs.declared.sides.Side.TheVariants.{Outside}
use Rattle.tl_map_county.specs.TheMap.{MapChain}
use Rattle.tl_map_county.specs.Segments.{segments_before}
use Rattle.tl_check_planar.specs.Planar.{IsPlanar}
use Rattle.tl_check_planar.specs.Keeping.Apart.{one_found}
use Rattle.tl_check_planar.proofs.Numbering.{below_total, one_chain, HaveSameEnds}
use Rattle.tl_check_planar.specs.ByHeight.Heights.{height, height_of, low_end, high_end, turn_at}
use Rattle.tl_check_planar.specs.ByHeight.Neighbours.{IsNumbered, IsWestOf, AreTested, EachTwo, AreApartOrAtEnds}
use Rattle.tl_check_planar.specs.ByHeight.Slabs.{IsListOf, AreSlabsTested}
use Rattle.tl_check_planar.proofs.ByHeight.Rising.{AreEndsOf}
use Rattle.tl_check_planar.proofs.ByHeight.Lying.{heights_of}
use Rattle.tl_check_planar.proofs.ByHeight.Numbered.{one_segment, on_same}
use Rattle.tl_check_faces.specs.Facing.{FacesAgree}
use Rattle.tl_check_faces.specs.Lists.{west_side, east_side, AreFacingFrom, AreSlabsFacing, AreAllNear}
use Rattle.tl_check_faces.specs.Disagreements.{IsInSlab}
use Rattle.tl_check_faces.proofs.Steep.{IsSpanned}
use Rattle.tl_check_faces.proofs.Lines.{IsWestward, level_with, turn_of_west}
use Rattle.tl_check_faces.proofs.Items.{Item, IsLine, numbered, ends, one_longitude}
use Rattle.tl_check_faces.proofs.Sorting.{IsSorted, IsListed, numbers, spanned_same, all as items_on_line}
use Rattle.tl_check_faces.proofs.Toward.{near_side, far_side}
use Rattle.tl_check_faces.proofs.Along.{AreFacing, IsFacedOn, on_line}
use Rattle.tl_check_faces.proofs.Tests.{is_west, are_free}
use Rattle.tl_check_faces.proofs.Within.{line, spanned_of, begun_of, all_active}

-- the sides of a segment of a chain from one point to another
abbrev west_of : ℤ → MapChain → (a b : Point) → Side
west_of K chain a b = if int_lt (height K a) (height K b) then chain.left else chain.right

abbrev east_of : ℤ → MapChain → (a b : Point) → Side
east_of K chain a b = if int_lt (height K a) (height K b) then chain.right else chain.left

module _ (K : ℤ) (above : pos 0 <ℤ K) (chains : List MapChain) (near : AreAllNear K chains) (planar : IsPlanar chains) (n : ℤ) where
  -- a place midway between the height and the next
  middle : Rational
  middle = record { x = pos 0 -ℤ (n +ℤ n +ℤ pos 1); y = pos 0; d = pos 2; above_zero = omega (arith, ints) }

  height_there : height_of K middle ≡ n +ℤ n +ℤ pos 1
  unfolding middle
  height_there = same (num K ⊗ num (pos 0) ⊖ (num (pos 0) ⊖ (num n ⊕ num n ⊕ num (pos 1)))) (num n ⊕ num n ⊕ num (pos 1)) (omega arith)

  inside : IsInSlab K n middle
  unfolding middle
  inside =
      let is = height_there in
      let low = twice n in let high = twice (n +ℤ pos 1) in
      record { above = omega (arith, ints, is, low); below = omega (arith, ints, is, high) }
    where
      twice : (h : ℤ) → pos 2 *ℤ h ≡ h +ℤ h
      twice h = same (num (pos 2) ⊗ num h) (num h ⊕ num h) (omega arith)

  on_middle : IsLine K chains middle
  on_middle = line K above chains near n middle inside

  -- ---- neighbours pass the tests

  module _ (x y : Item K chains middle) (ne : ¬ (x.s ≡ y.s)) (west : IsWestward x.at.place y.at.place) (u w : Segment) (is : IsNumbered chains x.s u) (is' : IsNumbered chains y.s w) where
    same_u : HaveSameEnds x.segment u
    same_u = one_segment chains x.s x.segment u (numbered K chains middle x) is

    same_w : HaveSameEnds y.segment w
    same_w = one_segment chains y.s y.segment w (numbered K chains middle y) is'

    spanned_u : IsSpanned K u middle
    spanned_u = spanned_same K x.segment u middle same_u x.spanned

    spanned_w : IsSpanned K w middle
    spanned_w = spanned_same K y.segment w middle same_w y.spanned

    on_u : IsOn u x.at.place
    on_u = on_same x.segment u x.at.place same_u x.at.on

    on_w : IsOn w y.at.place
    on_w = on_same y.segment w y.at.place same_w y.at.on

    ends_w : AreEndsOf K w (low_end K w) (high_end K w)
    ends_w = ends K chains middle on_middle y.s w is'

    turned : pos 0 <ℤ turn_at (low_end K w) (high_end K w) x.at.place
    turned =
        let e = ends_w in
        turn_of_west K above (low_end K w) (high_end K w) e.rising y.at.place x.at.place (heights_of K w (low_end K w) (high_end K w) ends_w y.at.place on_w).0
        (level_with K y.at.place x.at.place middle y.at.level x.at.level) west

    west_there : IsWestOf K u w
    west_there =
        let b = begun_of K above chains near n middle inside u spanned_u in let b' = begun_of K above chains near n middle inside w spanned_w in
        is_west K above chains planar x.s y.s u w ne is is' (ends K chains middle on_middle x.s u is) ends_w n b.0 b.1 b'.0 b'.1 middle x.at.place spanned_u spanned_w on_u x.at.level turned

    free_there : AreApartOrAtEnds u w
    free_there =
        let b = begun_of K above chains near n middle inside u spanned_u in let b' = begun_of K above chains near n middle inside w spanned_w in
        are_free K above chains planar x.s y.s u w ne is is' (ends K chains middle on_middle x.s u is) ends_w n b.0 b.1 b'.0 b'.1 middle x.at.place spanned_u spanned_w on_u x.at.level turned

  -- items at two places of the line have two numbers
  differ : (x y : Item K chains middle) → IsWestward x.at.place y.at.place → ¬ (x.s ≡ y.s)
  differ x y west e =
      let own : IsNumbered chains x.s y.segment = subst (λ m. IsNumbered chains m y.segment) (sym e) (numbered K chains middle y) in
      let both : HaveSameEnds x.segment y.segment = one_segment chains x.s x.segment y.segment (numbered K chains middle x) own in
      let here : IsOn y.segment x.at.place = on_same x.segment y.segment x.at.place both x.at.on in
      let one = one_longitude K chains middle on_middle x.s y.segment own x.at.place y.at.place here y.at.on (level_with K x.at.place y.at.place middle x.at.level y.at.level) in
      omega (arith, ints, one, west)

  all_tested : (xs : List (Item K chains middle)) → IsSorted K chains middle xs → EachTwo (AreTested K chains) (numbers K chains middle xs)
  all_tested [] sorted = tt
  all_tested (x ∷ []) sorted = tt
  all_tested (x ∷ (y ∷ xs)) sorted =
      let west : IsWestward x.at.place y.at.place = sorted.0 y (inl refl) in (
        record { west = λ u w is is'. west_there x y (differ x y west) west u w is is'; free = λ u w is is'. free_there x y (differ x y west) west u w is is' },
        all_tested (y ∷ xs) sorted.1,
      )

  -- ---- and facing sides agree

  chain_is : (x : Item K chains middle) (u : Segment) (m : IsNumbered chains x.s u) → x.chain ≡ m.joins.chain
  chain_is x u m =
      let own : IsNumbered chains x.s x.segment = numbered K chains middle x in
      let c : x.c ≡ m.c = one_chain chains x.s x.c x.k m.c m.k (record { chain = x.chain; is = x.is; place = x.inside; number = x.number }) m.number in
      one_found x.chain m.joins.chain (slice_get chains m.c) (subst (λ k. slice_get chains k ≡ Some x.chain) c x.is) m.joins.is

  near_is : (x : Item K chains middle) (u : Segment) (m : IsNumbered chains x.s u) → near_side K chains middle on_middle x ≡ west_side K m.joins.chain u
  near_is x u m =
      let e : HaveSameEnds x.segment u = one_segment chains x.s x.segment u (numbered K chains middle x) m in
      (λ i. west_of K (chain_is x u m i) (e.first i) (e.last i))

  far_is : (x : Item K chains middle) (u : Segment) (m : IsNumbered chains x.s u) → far_side K chains middle on_middle x ≡ east_side K m.joins.chain u
  far_is x u m =
      let e : HaveSameEnds x.segment u = one_segment chains x.s x.segment u (numbered K chains middle x) m in
      (λ i. east_of K (chain_is x u m i) (e.first i) (e.last i))

  facing_numbers : (west : Side) (xs : List (Item K chains middle)) → AreFacing K chains middle on_middle west xs → AreFacingFrom K chains west (numbers K chains middle xs)
  facing_numbers west [] facing = facing
  facing_numbers west (x ∷ xs) facing = λ u m. (
    facing.0 ∙ near_is x u m,
    subst (λ side. AreFacingFrom K chains side (numbers K chains middle xs)) (far_is x u m) (facing_numbers (far_side K chains middle on_middle x) xs facing.1),
  )

  -- ---- the list

  -- all that meets the line has the numbers of the slab's list
  list_of : (xs : List (Item K chains middle)) → IsListed K chains middle (segments_before chains (length chains)) xs → IsListOf K n chains (numbers K chains middle xs)
  list_of xs all = record {
    active = all_active K above chains near n middle inside xs;
    once = λ s a. all.once s a.segment (below_total chains s a.is.c a.is.k a.is.number) a.is (spanned_of K above chains near n middle inside a.segment a.begun a.lasting);
    tested = all_tested xs all.sorted;
  }

  tested : (list : List ℕ) × IsListOf K n chains list
  tested = let found = items_on_line K chains middle on_middle planar in (numbers K chains middle found.0, list_of found.0 found.1)

  listed : FacesAgree chains → (list : List ℕ) × IsListOf K n chains list × AreFacingFrom K chains Outside list
  listed agree = go (on_line chains planar agree K middle on_middle)
    where
      go : IsFacedOn K chains middle on_middle → (list : List ℕ) × IsListOf K n chains list × AreFacingFrom K chains Outside list
      go f = (numbers K chains middle f.items, list_of f.items f.listed, facing_numbers Outside f.items f.along)

pub to_slabs : (K : ℤ) (chains : List MapChain) → pos 0 <ℤ K → AreAllNear K chains → IsPlanar chains → FacesAgree chains → AreSlabsFacing K chains
to_slabs K chains above near planar agree n = listed K above chains near planar n agree

pub lists : (K : ℤ) (chains : List MapChain) → pos 0 <ℤ K → AreAllNear K chains → IsPlanar chains → AreSlabsTested K chains
lists K chains above near planar n = tested K above chains near planar n
