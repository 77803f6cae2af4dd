-- The joined borders of all parts are the border of the joined map.
use Rattle.std.proofs.Common.{◌≡◌, ℕ, ◌<◌, Bool, true, false, ◌||◌, Some, List, [], ◌∷◌, length, take, get_or, slice_get, refl, sym, ap, subst, ◌∙◌, arith}
use Rattle.std.specs.Prelude.{◌==◌, if◌then◌else◌}
use Rattle.std.proofs.lemmas.Bool.{false≢true, eqb-true, eq-eqb}
use Rattle.std.proofs.lemmas.Option.{slice_get-get_or, slice_get_within}
use Rattle.tl_map_county.specs.declared.polygons.Polygon as polygons
use Rattle.tl_map_county.specs.declared.sides.Side.{Side}
use Rattle.tl_map_county.specs.declared.sides.Side.TheVariants.{Outside, Polygon}
use Rattle.tl_map_county.specs.TheMap.{TheMap, MapChain}
use Rattle.tigertopo_border.specs.Whole.Told.{IsNamed, AreTold}
use Rattle.tigertopo_border.specs.Whole.Homes.{Homes, is_of, is_blank, own, tells, name, is_border, IsOfParts, IsToldByParts}
use Rattle.tigertopo_border.specs.Whole.Joined.{IsJoined, IsBorder, IsPolygonOf, IsFromPart, IsPointOfPart}
use Rattle.tigertopo_border.specs.Whole.Borders.{as_one, has_blank, IsPointWithin, IsBorderOf, AreBordersOf, of_borders, AreTlidsRising}
use Rattle.tigertopo_border.proofs.WholeLemmas.Told.{place, StandsAt, there, IsToldAs, told_as}
use Rattle.tigertopo_border.proofs.WholeLemmas.Names.{tells_left, tells_right, not_both, IsToldBy, some_part}
use Rattle.tigertopo_border.proofs.WholeLemmas.Matching.{one_of_tlid, IsFound, IsSource, told_by}

module _ (homes : Homes) where
  -- the two sides of part k are one, once by its own polygons and once by its name
  abbrev AreAlike : ℕ → Side → Side → Type 0
  AreAlike k s t = own (of_borders homes) k t ≡ as_one (own homes k s)

  -- where the part has its polygon, it is named
  named_by : (k : ℕ) (s t : Side) → AreAlike k s t → is_of homes k s ≡ true → t ≡ Polygon k
  named_by k s t alike e = by t (alike ∙ one s e)
    where
      one : (s : Side) → is_of homes k s ≡ true → as_one (own homes k s) ≡ Polygon 0
      one Outside e = absurd (false≢true e)
      one (Polygon p) e = rw e refl

      by : (t : Side) → own (of_borders homes) k t ≡ Polygon 0 → t ≡ Polygon k
      by Outside f = absurd (cc)
      by (Polygon j) f = go (j == k) refl f
        where
          go : (b : Bool) → (j == k) ≡ b → (if b then Polygon 0 else Outside) ≡ Polygon 0 → Polygon j ≡ Polygon k
          go true g h = ap Polygon (eqb-true j k g)
          go false g h = absurd (cc)

  -- and where it is named, it has one
  names_own : (k : ℕ) (s : Side) → AreAlike k s (Polygon k) → is_of homes k s ≡ true
  names_own k s alike = by s (sym (self k) ∙ alike)
    where
      self : (k : ℕ) → own (of_borders homes) k (Polygon k) ≡ Polygon 0
      self k = let t = eq-eqb k k refl in rw t refl

      by : (s : Side) → Polygon 0 ≡ as_one (own homes k s) → is_of homes k s ≡ true
      by Outside f = absurd (cc)
      by (Polygon p) f = go (homes.part p == k) refl f
        where
          go : (b : Bool) → (homes.part p == k) ≡ b → Polygon 0 ≡ as_one (if b then Polygon (homes.number p) else Outside) → (homes.part p == k) ≡ true
          go true g h = g
          go false g h = absurd (cc)

  blank_own : (k : ℕ) (s : Side) → is_of homes k s ≡ false → is_blank (own homes k s) ≡ true
  blank_own k Outside e = refl
  blank_own k (Polygon p) e = rw e refl

  own_blank : (k : ℕ) (s : Side) → is_blank (own homes k s) ≡ true → is_of homes k s ≡ false
  own_blank k Outside e = refl
  own_blank k (Polygon p) e = go (homes.part p == k) refl e
    where
      go : (b : Bool) → (homes.part p == k) ≡ b → is_blank (if b then Polygon (homes.number p) else Outside) ≡ true → (homes.part p == k) ≡ false
      go true f e = absurd (false≢true e)
      go false f e = f

  -- a chain that part k tells is of the border exactly where it is of the part's own
  own_border : (k : ℕ) (c one : MapChain) → IsNamed (own homes k) c one → is_border homes c ≡ true → has_blank one ≡ true
  own_border k c one named e = go (is_of homes k c.left) (is_of homes k c.right) refl refl
    where
      go : (s t : Bool) → is_of homes k c.left ≡ s → is_of homes k c.right ≡ t → has_blank one ≡ true
      go true true f g = absurd (not_both homes k c e f g)
      go false t f g = let b : is_blank one.left ≡ true = ap is_blank named.left ∙ blank_own k c.left f in rw b refl
      go true false f g = let b : is_blank one.right ≡ true = ap is_blank named.right ∙ blank_own k c.right g in by (is_blank one.left) b
        where
          by : (l : Bool) → is_blank one.right ≡ true → (l || is_blank one.right) ≡ true
          by true b = refl
          by false b = b

  border_own : (k : ℕ) (c one : MapChain) → IsNamed (own homes k) c one → tells homes k c ≡ true → has_blank one ≡ true → is_border homes c ≡ true
  border_own k c one named told e = by c.left c.right refl refl
    where
      -- not both sides are of part k
      either : (is_of homes k c.left ≡ true → is_of homes k c.right ≡ true → ⊥)
      either f g = go (is_blank one.left) (is_blank one.right) refl refl e
        where
          go : (l r : Bool) → is_blank one.left ≡ l → is_blank one.right ≡ r → (is_blank one.left || is_blank one.right) ≡ true → ⊥
          go true r p q e = false≢true (sym (own_blank k c.left (sym (ap is_blank named.left) ∙ p)) ∙ f)
          go false true p q e = false≢true (sym (own_blank k c.right (sym (ap is_blank named.right) ∙ q)) ∙ g)
          go false false p q e = false≢true (sym (ap (λ b. b || is_blank one.right) p ∙ q) ∙ e)

      by : (l r : Side) → c.left ≡ l → c.right ≡ r → is_border homes c ≡ true
      by Outside r f g = rw f refl
      by (Polygon p) Outside f g = rw (f, g) refl
      by (Polygon p) (Polygon q) f g = go (homes.part p == homes.part q) refl
        where
          told_one : (homes.part p == k) ≡ true → (homes.part p == homes.part q) ≡ true → ⊥
          told_one h i =
              either (ap (is_of homes k) f ∙ h)
              (ap (is_of homes k) g ∙ eq-eqb (homes.part q) k (sym (eqb-true (homes.part p) (homes.part q) i) ∙ eqb-true (homes.part p) k h))

          go : (b : Bool) → (homes.part p == homes.part q) ≡ b → is_border homes c ≡ true
          go false i = rw (f, g, i) refl
          go true i = absurd (which (homes.part p == k) (homes.part q == k) refl refl)
            where
              untold : (homes.part p == k) ≡ false → (homes.part q == k) ≡ false → tells homes k c ≡ false
              untold h j = rw (f, g, h, j) refl

              which : (s t : Bool) → (homes.part p == k) ≡ s → (homes.part q == k) ≡ t → ⊥
              which true t h j = told_one h i
              which false true h j = false≢true (sym h ∙ eq-eqb (homes.part p) k (eqb-true (homes.part p) (homes.part q) i ∙ eqb-true (homes.part q) k j))
              which false false h j = false≢true (sym (untold h j) ∙ told)

module _ (homes : Homes) (parts borders : List TheMap) (joined border : TheMap) (is_joined : IsJoined homes parts joined) (own_borders : AreBordersOf parts borders)
    (is_border_joined : IsJoined (of_borders homes) borders border) (rising : AreTlidsRising joined.chains) (border_rising : AreTlidsRising border.chains) where
  no_map : TheMap
  no_map = record { chains = []; polygons = []; landmarks = []; skipped = 0 }

  at : List TheMap → ℕ → TheMap
  at maps k = get_or maps k no_map

  at_is : (maps : List TheMap) (k : ℕ) → k < length maps → slice_get maps k ≡ Some (at maps k)
  unfolding at
  at_is maps k lt = slice_get-get_or maps k no_map lt

  below : (k : ℕ) → k < length parts → k < length borders
  below k lt = let e = own_borders.many in omega (arith, lt, e)

  above : (k : ℕ) → k < length borders → k < length parts
  above k lt = let e = own_borders.many in omega (arith, lt, e)

  part_told : (k : ℕ) (lt : k < length parts) → AreTold (own homes k) (tells homes k) joined.chains (at parts k).chains
  part_told k lt = is_joined.each k (at parts k) (at_is parts k lt)

  own_told : (k : ℕ) (lt : k < length parts) → AreTold as_one has_blank (at parts k).chains (at borders k).chains
  own_told k lt = (own_borders.each k (at parts k) (at borders k) (at_is parts k lt) (at_is borders k (below k lt))).chains

  border_told : (k : ℕ) (lt : k < length parts) → AreTold (own (of_borders homes) k) (tells (of_borders homes) k) border.chains (at borders k).chains
  border_told k lt = is_border_joined.each k (at borders k) (at_is borders k (below k lt))

  -- part k tells both chains
  record IsLinked (k : ℕ) (c o : MapChain) : Type 0 where
    tlid : o.tlid ≡ c.tlid
    points : o.points ≡ c.points
    left : AreAlike homes k c.left o.left
    right : AreAlike homes k c.right o.right

  linked : (k : ℕ) (c m b o : MapChain) → IsNamed (own homes k) c m → IsNamed as_one m b → IsNamed (own (of_borders homes) k) o b → IsLinked k c o
  linked k c m b o p q r = record {
    tlid = sym r.tlid ∙ q.tlid ∙ p.tlid;
    points = sym r.points ∙ q.points ∙ p.points;
    left = sym r.left ∙ q.left ∙ ap as_one p.left;
    right = sym r.right ∙ q.right ∙ ap as_one p.right;
  }

  record IsDown (k : ℕ) (c : MapChain) : Type 0 where
    place_of : ℕ
    one : MapChain
    is : slice_get border.chains place_of ≡ Some one
    link : IsLinked k c one

  down : (k : ℕ) → k < length parts → (d : ℕ) (c : MapChain) → slice_get joined.chains d ≡ Some c → tells homes k c ≡ true → is_border homes c ≡ true → IsDown k c
  down k lt d c is told of_border =
      let m : IsToldAs (own homes k) (tells homes k) joined.chains (at parts k).chains c d =
      told_as (own homes k) (tells homes k) joined.chains (at parts k).chains (part_told k lt) d c is told in
      let b : IsToldAs as_one has_blank (at parts k).chains (at borders k).chains m.one m.place_of =
      told_as as_one has_blank (at parts k).chains (at borders k).chains (own_told k lt) m.place_of m.one m.is (own_border homes k c m.one m.named of_border) in
      let o : StandsAt (own (of_borders homes) k) (tells (of_borders homes) k) border.chains b.one (place (own (of_borders homes) k) (tells (of_borders homes) k) border.chains b.place_of) =
      there (own (of_borders homes) k) (tells (of_borders homes) k) border.chains (at borders k).chains (border_told k lt) b.place_of b.one b.is in
      record {
        place_of = place (own (of_borders homes) k) (tells (of_borders homes) k) border.chains b.place_of;
        one = o.chain;
        is = o.is;
        link = linked k c m.one b.one o.chain m.named b.named o.named;
      }

  record IsUp (k : ℕ) (o : MapChain) : Type 0 where
    place_of : ℕ
    chain : MapChain
    is : slice_get joined.chains place_of ≡ Some chain
    of_border : is_border homes chain ≡ true
    link : IsLinked k chain o

  up : (k : ℕ) → k < length parts → (e : ℕ) (o : MapChain) → slice_get border.chains e ≡ Some o → tells (of_borders homes) k o ≡ true → IsUp k o
  up k lt e o is told =
      let b : IsToldAs (own (of_borders homes) k) (tells (of_borders homes) k) border.chains (at borders k).chains o e =
      told_as (own (of_borders homes) k) (tells (of_borders homes) k) border.chains (at borders k).chains (border_told k lt) e o is told in
      let m : StandsAt as_one has_blank (at parts k).chains b.one (place as_one has_blank (at parts k).chains b.place_of) =
      there as_one has_blank (at parts k).chains (at borders k).chains (own_told k lt) b.place_of b.one b.is in
      let c : StandsAt (own homes k) (tells homes k) joined.chains m.chain (place (own homes k) (tells homes k) joined.chains (place as_one has_blank (at parts k).chains b.place_of)) =
      there (own homes k) (tells homes k) joined.chains (at parts k).chains (part_told k lt) (place as_one has_blank (at parts k).chains b.place_of) m.chain m.is in
      record {
        place_of = place (own homes k) (tells homes k) joined.chains (place as_one has_blank (at parts k).chains b.place_of);
        chain = c.chain;
        is = c.is;
        of_border = border_own homes k c.chain m.chain c.named c.told_is m.told_is;
        link = linked k c.chain m.chain b.one o c.named m.named b.named;
      }

  -- ---- so a chain of the border has the names of the parts on both sides

  module _ (d : ℕ) (c : MapChain) (is : slice_get joined.chains d ≡ Some c) (of_border : is_border homes c ≡ true) (e : ℕ) (o : MapChain)
      (is' : slice_get border.chains e ≡ Some o) (same : o.tlid ≡ c.tlid) where
    from_down : (k : ℕ) → k < length parts → tells homes k c ≡ true → IsLinked k c o
    from_down k lt told =
        let w : IsDown k c = down k lt d c is told of_border in
        subst (IsLinked k c) (one_of_tlid border.chains border_rising w.place_of e w.one o w.is is' (w.link.tlid ∙ sym same)) w.link

    from_up : (k : ℕ) → k < length parts → tells (of_borders homes) k o ≡ true → IsLinked k c o
    from_up k lt told =
        let w : IsUp k o = up k lt e o is' told in
        subst (λ z. IsLinked k z o) (one_of_tlid joined.chains rising w.place_of d w.chain c w.is is (sym w.link.tlid ∙ same)) w.link

    known : IsToldByParts homes (length parts) c
    known = is_joined.told d c is

    known' : IsToldByParts (of_borders homes) (length borders) o
    known' = is_border_joined.told e o is'

    named_left : o.left ≡ name homes c.left
    named_left = go c.left o.left refl refl
      where
        go : (s t : Side) → c.left ≡ s → o.left ≡ t → o.left ≡ name homes c.left
        go (Polygon p) t f g =
            let own_one : is_of homes (homes.part p) c.left ≡ true = ap (is_of homes (homes.part p)) f ∙ eq-eqb (homes.part p) (homes.part p) refl in
            let link : IsLinked (homes.part p) c o = from_down (homes.part p) (subst (IsOfParts homes (length parts)) f known.left) (tells_left homes (homes.part p) c own_one) in
            named_by homes (homes.part p) c.left o.left link.left own_one ∙ sym (ap (name homes) f)
        go Outside Outside f g = g ∙ sym (ap (name homes) f)
        go Outside (Polygon j) f g =
            let told : tells (of_borders homes) j o ≡ true = tells_left (of_borders homes) j o (ap (is_of (of_borders homes) j) g ∙ eq-eqb j j refl) in
            let link : IsLinked j c o = from_up j (above j (subst (IsOfParts (of_borders homes) (length borders)) g known'.left)) told in
            absurd (false≢true (ap (is_of homes j) (sym f) ∙ names_own homes j c.left (subst (AreAlike homes j c.left) g link.left)))

    named_right : o.right ≡ name homes c.right
    named_right = go c.right o.right refl refl
      where
        go : (s t : Side) → c.right ≡ s → o.right ≡ t → o.right ≡ name homes c.right
        go (Polygon p) t f g =
            let own_one : is_of homes (homes.part p) c.right ≡ true = ap (is_of homes (homes.part p)) f ∙ eq-eqb (homes.part p) (homes.part p) refl in
            let link : IsLinked (homes.part p) c o = from_down (homes.part p) (subst (IsOfParts homes (length parts)) f known.right) (tells_right homes (homes.part p) c own_one) in
            named_by homes (homes.part p) c.right o.right link.right own_one ∙ sym (ap (name homes) f)
        go Outside Outside f g = g ∙ sym (ap (name homes) f)
        go Outside (Polygon j) f g =
            let told : tells (of_borders homes) j o ≡ true = tells_right (of_borders homes) j o (ap (is_of (of_borders homes) j) g ∙ eq-eqb j j refl) in
            let link : IsLinked j c o = from_up j (above j (subst (IsOfParts (of_borders homes) (length borders)) g known'.right)) told in
            absurd (false≢true (ap (is_of homes j) (sym f) ∙ names_own homes j c.right (subst (AreAlike homes j c.right) g link.right)))

    named : o.points ≡ c.points → IsNamed (name homes) c o
    named points = record { tlid = same; points = points; left = named_left; right = named_right }

  found : (d : ℕ) (c : MapChain) → slice_get joined.chains d ≡ Some c → is_border homes c ≡ true → IsFound (name homes) (is_border homes) border.chains c
  found d c is of_border =
      let p : IsToldBy homes (length parts) c = some_part homes (length parts) c (is_joined.told d c is) in
      let w : IsDown p.k c = down p.k p.below d c is p.told of_border in
      record { place = w.place_of; one = w.one; is = w.is; named = named d c is of_border w.place_of w.one w.is w.link.tlid w.link.points }

  source : (e : ℕ) (o : MapChain) → slice_get border.chains e ≡ Some o → IsSource (name homes) (is_border homes) joined.chains o
  source e o is =
      let p : IsToldBy (of_borders homes) (length borders) o = some_part (of_borders homes) (length borders) o (is_border_joined.told e o is) in
      let w : IsUp p.k o = up p.k (above p.k p.below) e o is p.told in
      record { place = w.place_of; chain = w.chain; is = w.is; told_is = w.of_border; named = named w.place_of w.chain w.is w.of_border e o is w.link.tlid w.link.points }

  point_of : (k : ℕ) (polygon : polygons.Polygon) → IsFromPart (of_borders homes) borders k polygon → IsPointOfPart homes joined k polygon
  point_of k polygon f = by_first (own_borders.each k (at parts k) f.part (at_is parts k lt) f.is)
    where
      lt : k < length parts
      lt = above k (slice_get_within borders k f.part f.is)

      by_place : (p : ℕ) (other : polygons.Polygon) → polygon.point ≡ other.point → IsPolygonOf homes joined k p other → IsPointOfPart homes joined k polygon
      by_place p other e q = record { place = q.place; other = other; is = q.is; part = q.part; point = e }

      by_first : IsBorderOf (at parts k) f.part → IsPointOfPart homes joined k polygon
      by_first b =
          let w : IsPointWithin (at parts k) polygon = b.points polygon f.polygon_is in
          by_place w.place w.other w.point (is_joined.known k w.place (at parts k) w.other (at_is parts k lt) w.is)

  -- a part that has a polygon has one in its border, and so in the joined borders
  all_there : (p : ℕ) (polygon : polygons.Polygon) → IsFromPart homes parts p polygon → homes.part p < length border.polygons
  all_there p polygon f = by_border (own_borders.each (homes.part p) f.part (at borders (homes.part p)) f.is (at_is borders (homes.part p) (below (homes.part p) lt)))
    where
      lt : homes.part p < length parts
      lt = slice_get_within parts (homes.part p) f.part f.is

      some : 0 < length f.part.polygons
      some = let h = slice_get_within f.part.polygons (homes.number p) polygon f.polygon_is in omega (arith, h)

      one_taken : (ps : List polygons.Polygon) → 0 < length ps → 0 < length (take 1 ps)
      one_taken [] h = h
      one_taken (q ∷ ps) h = omega arith

      there_is : (first : polygons.Polygon) → IsPolygonOf (of_borders homes) border (homes.part p) 0 first → homes.part p < length border.polygons
      there_is first q = subst (λ z. z < length border.polygons) q.part (slice_get_within border.polygons q.place first q.is)

      by_border : IsBorderOf f.part (at borders (homes.part p)) → homes.part p < length border.polygons
      by_border b =
          let many : 0 < length (at borders (homes.part p)).polygons = subst (λ n. 0 < n) (sym b.many) (one_taken f.part.polygons some) in
          let first : polygons.Polygon = get_or (at borders (homes.part p)).polygons 0 polygon in
          there_is first
          (is_border_joined.known (homes.part p) 0 (at borders (homes.part p)) first (at_is borders (homes.part p) (below (homes.part p) lt))
          (slice_get-get_or (at borders (homes.part p)).polygons 0 polygon many))

  pub joined_borders : IsBorder homes joined border
  joined_borders = record {
    chains = told_by (name homes) (is_border homes) joined.chains border.chains rising border_rising found source;
    points = λ k polygon is. point_of k polygon (is_border_joined.no_other k polygon is);
    all = λ p polygon is. all_there p polygon (is_joined.no_other p polygon is);
  }
