-- Two neighbours of a slab's list face one another across each line within the slab, the first faces west, and the last faces east.
use Rattle.std.proofs.Common.{◌≡◌, ◌≢◌, inl, ℕ, ℤ, pos, ◌-ℤ◌, ◌<ℤ◌, ◌≤◌, List, [], ◌∷◌, ◌++◌, length, refl, sym, ap, ap₂, subst, ◌∙◌, arith}
use Rattle.std.specs.Prelude.{All}
use Rattle.std.proofs.lemmas.Int.{ints}
use Rattle.std.proofs.lemmas.List.Elements.{All-nil, All-cons}
use Rattle.tl_geom.specs.declared.rational.Rational.{Rational}
use Rattle.tl_geom.specs.declared.segment.Segment.{Segment}
use Rattle.tl_geom.specs.Plane.{IsOn}
use Rattle.tl_map_county.specs.declared.sides.Side.TheVariants.{Outside}
use Rattle.tl_map_county.specs.TheMap.{MapChain}
use Rattle.tl_map_county.specs.Segments.{segments_before}
use Rattle.tl_tree_index.specs.Hits.{times}
use Rattle.tl_check_planar.specs.Planar.{IsPlanar}
use Rattle.tl_check_planar.proofs.Numbering.{below_total}
use Rattle.tl_check_planar.specs.ByHeight.Heights.{AreNear}
use Rattle.tl_check_planar.specs.ByHeight.Neighbours.{IsNumbered, AreTested, EachTwo}
use Rattle.tl_check_planar.specs.ByHeight.Slabs.{IsActive, IsListOf, IsChainPoint}
use Rattle.tl_check_planar.proofs.ByHeight.Walking.{all_head, all_tail}
use Rattle.tl_check_faces.specs.Facing.{FacesAgree}
use Rattle.tl_check_faces.specs.Lists.{west_side, east_side, AreAllNear}
use Rattle.tl_check_faces.specs.Disagreements.{FacingSide, facing_west, facing_east, IsFaceDisagreement, IsOutwardDisagreement, IsInSlab, HaveOneHeight}
use Rattle.tl_check_faces.proofs.Lines.{AreLevel, IsWestward, met}
use Rattle.tl_check_faces.proofs.Steep.{IsSpanned}
use Rattle.tl_check_faces.proofs.Items.{Item, IsLine, item_with, numbered, of_chain, ends, spanned_by}
use Rattle.tl_check_faces.proofs.Sorting.{IsListed, numbers, sorted_back}
use Rattle.tl_check_faces.proofs.Along.{strictly_on, clear_between, clear_to_west, clear_to_east, side_to_next, side_to_last, side_to_east, side_to_west}
use Rattle.tl_check_faces.proofs.Tested.{at_most_once, items_of, numbers_of, sorted_items}
use Rattle.tl_check_faces.proofs.Within.{line, spanned_of, begun_of}

-- ---- parts of lists

pub all_front : (P : ℕ → Type 0) (xs ys : List ℕ) → All P (xs ++ ys) → All P xs
all_front P [] ys all = All-nil P
all_front P (x ∷ xs) ys all = All-cons P x xs (all_head P x (xs ++ ys) all) (all_front P xs ys (all_tail P x (xs ++ ys) all))

pub all_back : (P : ℕ → Type 0) (xs ys : List ℕ) → All P (xs ++ ys) → All P ys
all_back P [] ys all = all
all_back P (x ∷ xs) ys all = all_back P xs ys (all_tail P x (xs ++ ys) all)

pub numbers-both : (K : ℤ) (chains : List MapChain) (r : Rational) (xs ys : List (Item K chains r)) →
    numbers K chains r (xs ++ ys) ≡ numbers K chains r xs ++ numbers K chains r ys
numbers-both K chains r [] ys = refl
numbers-both K chains r (x ∷ xs) ys = ap (λ l. x.s ∷ l) (numbers-both K chains r xs ys)

-- ---- on a line within the slab

module _ (K : ℤ) (above : pos 0 <ℤ K) (chains : List MapChain) (near : AreAllNear K chains) (planar : IsPlanar chains)
    (n : ℤ) (r : Rational) (inside : IsInSlab K n r) where
  abbrev pub on_line : IsLine K chains r
  on_line = line K above chains near n r inside

  pub item : (s : ℕ) → IsActive K n chains s → Item K chains r
  item s a =
      let spanned : IsSpanned K a.segment r = spanned_of K above chains near n r inside a.segment a.begun a.lasting in
      item_with K chains r s a.segment a.is spanned (met K a.segment r (ends K chains r on_line s a.segment a.is) spanned)

  item_number : (s : ℕ) (a : IsActive K n chains s) → (item s a).s ≡ s
  unfolding item
  item_number s a = refl

  abbrev pub items : (list : List ℕ) → All (IsActive K n chains) list → List (Item K chains r)
  items list all = items_of K chains r (IsActive K n chains) item list all

  pub items_are : (list : List ℕ) (all : All (IsActive K n chains) list) → numbers K chains r (items list all) ≡ list
  items_are list all = numbers_of K chains r (IsActive K n chains) item item_number list all

  -- the item of a segment at a place of the line
  abbrev item_there : (s : ℕ) (u : Segment) → IsNumbered chains s u → (p : Rational) → IsOn u p → AreLevel K p r → Item K chains r
  item_there s u is p on level = item_with K chains r s u is (spanned_by K chains r on_line s u is p on level) (record { place = p; on = on; level = level })

  -- items whose numbers are the slab's list are all that meet the line
  pub listed : (list : List ℕ) → IsListOf K n chains list → (xs : List (Item K chains r)) → numbers K chains r xs ≡ list →
      IsListed K chains r (segments_before chains (length chains)) xs
  listed list of xs are = record {
    sorted = sorted_items K chains planar r on_line K (λ x y west. west) xs (subst (EachTwo (AreTested K chains)) (sym are) of.tested)
        (λ s. subst (λ l. times s l ≤ 1) (sym are) (at_most_once K n chains list of s));
    below = λ y h. let m = numbered K chains r y in below_total chains y.s m.c m.k m.number;
    once = λ s u lt is spanned.
        let b = begun_of K above chains near n r inside u spanned in
        ap (times s) are ∙ of.once s (record { segment = u; is = is; begun = b.0; lasting = b.1 });
  }

  module _ (front back : List ℕ) (s : ℕ) (u : Segment) (is : IsNumbered chains s u) (p : Rational) (on : IsOn u p) (level : AreLevel K p r) where
    abbrev x : Item K chains r
    x = item_there s u is p on level

    -- two neighbours
    module _ (t : ℕ) (w : Segment) (is' : IsNumbered chains t w) (q : Rational) (on' : IsOn w q) (level' : AreLevel K q r)
        (of : IsListOf K n chains (front ++ (s ∷ (t ∷ back)))) where
      abbrev y : Item K chains r
      y = item_there t w is' q on' level'

      before : All (IsActive K n chains) front
      before = all_front (IsActive K n chains) front (s ∷ (t ∷ back)) of.active

      behind : All (IsActive K n chains) back
      behind = all_tail (IsActive K n chains) t back (all_tail (IsActive K n chains) s (t ∷ back)
          (all_back (IsActive K n chains) front (s ∷ (t ∷ back)) of.active))

      all_items : IsListed K chains r (segments_before chains (length chains)) (items front before ++ (x ∷ (y ∷ items back behind)))
      all_items = listed (front ++ (s ∷ (t ∷ back))) of (items front before ++ (x ∷ (y ∷ items back behind)))
          (numbers-both K chains r (items front before) (x ∷ (y ∷ items back behind))
          ∙ ap₂ (λ l m. l ++ (s ∷ (t ∷ m))) (items_are front before) (items_are back behind))

      west : IsWestward p q
      west = (sorted_back K chains r (items front before) (x ∷ (y ∷ items back behind)) all_items.sorted).0 y (inl refl)

      facing : east_side K is.joins.chain u ≢ west_side K is'.joins.chain w →
          IsFaceDisagreement chains (facing_east K is.joins.chain u p) (facing_west K is'.joins.chain w q)
      facing differ = record {
        first = of_chain K chains r x;
        last = of_chain K chains r y;
        on_first = strictly_on K chains r on_line x;
        on_last = strictly_on K chains r on_line y;
        clear = clear_between K chains r on_line (items front before) x y (items back behind) all_items;
        from_first = side_to_next K chains r on_line x y west;
        from_last = side_to_last K chains r on_line x y west;
        differ = differ;
      }

    -- the first
    to_west : IsListOf K n chains (s ∷ back) → west_side K is.joins.chain u ≢ Outside →
        IsOutwardDisagreement chains (facing_west K is.joins.chain u p) (pos 0 -ℤ K) (pos 0 -ℤ pos 1)
    to_west of differs = record {
      of = of_chain K chains r x;
      on = strictly_on K chains r on_line x;
      clear = clear_to_west K chains r on_line x (items back behind)
          (listed (s ∷ back) of (x ∷ items back behind) (ap (λ l. s ∷ l) (items_are back behind)));
      from = side_to_west K chains r on_line x;
      differs = differs;
    }
      where
        behind : All (IsActive K n chains) back
        behind = all_tail (IsActive K n chains) s back of.active

    -- and the last
    to_east : IsListOf K n chains (front ++ (s ∷ [])) → east_side K is.joins.chain u ≢ Outside →
        IsOutwardDisagreement chains (facing_east K is.joins.chain u p) K (pos 1)
    to_east of differs = record {
      of = of_chain K chains r x;
      on = strictly_on K chains r on_line x;
      clear = clear_to_east K chains r on_line (items front before) x
          (listed (front ++ (s ∷ [])) of (items front before ++ (x ∷ []))
          (numbers-both K chains r (items front before) (x ∷ []) ∙ ap (λ l. l ++ (s ∷ [])) (items_are front before)));
      from = side_to_east K chains r on_line x;
      differs = differs;
    }
      where
        before : All (IsActive K n chains) front
        before = all_front (IsActive K n chains) front (s ∷ []) of.active

-- ---- at places of the segments within the slab

-- K is above 0 where there is a segment
pub above_zero : (K : ℤ) (chains : List MapChain) → AreAllNear K chains → (s : ℕ) (u : Segment) → IsNumbered chains s u → pos 0 <ℤ K
above_zero K chains near s u is =
    let first : IsChainPoint chains is.c is.k u.a = record { chain = is.joins.chain; is = is.joins.is; point = is.joins.from } in
    let own : AreNear K u.a u.a = near is.c is.k is.c is.k u.a u.a first first in
    let west = own.west in omega (arith, ints, west)

module _ (K n : ℤ) (chains : List MapChain) (near : AreAllNear K chains) (planar : IsPlanar chains) (front back : List ℕ)
    (s : ℕ) (u : Segment) (is : IsNumbered chains s u) (p : Rational) (on : IsOn u p) (inside : IsInSlab K n p) where
  above : pos 0 <ℤ K
  above = above_zero K chains near s u is

  itself : AreLevel K p p
  itself = record { is = refl }

  pub neighbours : (t : ℕ) (w : Segment) (is' : IsNumbered chains t w) (q : Rational) → IsOn w q → HaveOneHeight K p q →
      IsListOf K n chains (front ++ (s ∷ (t ∷ back))) →
      east_side K is.joins.chain u ≢ west_side K is'.joins.chain w →
      IsFaceDisagreement chains (facing_east K is.joins.chain u p) (facing_west K is'.joins.chain w q)
  neighbours t w is' q on' level of differ =
      facing K above chains near planar n p inside front back s u is p on itself t w is' q on' (record { is = sym level }) of differ

  pub westward : (t : ℕ) (w : Segment) → IsNumbered chains t w → (q : Rational) → IsOn w q → HaveOneHeight K p q →
      IsListOf K n chains (front ++ (s ∷ (t ∷ back))) → IsWestward p q
  westward t w is' q on' level of = west K above chains near planar n p inside front back s u is p on itself t w is' q on' (record { is = sym level }) of

  pub first : IsListOf K n chains (s ∷ back) → west_side K is.joins.chain u ≢ Outside →
      IsOutwardDisagreement chains (facing_west K is.joins.chain u p) (pos 0 -ℤ K) (pos 0 -ℤ pos 1)
  first of differs = to_west K above chains near planar n p inside front back s u is p on itself of differs

  pub last : IsListOf K n chains (front ++ (s ∷ [])) → east_side K is.joins.chain u ≢ Outside →
      IsOutwardDisagreement chains (facing_east K is.joins.chain u p) K (pos 1)
  last of differs = to_east K above chains near planar n p inside front back s u is p on itself of differs

-- ---- and faces don't agree there

pub face_contradicts : (chains : List MapChain) (one other : FacingSide) → IsFaceDisagreement chains one other → ¬ FacesAgree chains
face_contradicts chains one other d agree =
    d.differ (agree.facing one.chain other.chain one.segment other.segment one.place other.place one.side other.side d.first d.last d.on_first
    d.on_last d.clear d.from_first d.from_last)

pub outward_contradicts : (chains : List MapChain) (one : FacingSide) (x y : ℤ) → IsOutwardDisagreement chains one x y → ¬ FacesAgree chains
outward_contradicts chains one x y d agree =
    d.differs (agree.outward one.chain one.segment one.place x y one.side d.of d.on d.clear d.from)
