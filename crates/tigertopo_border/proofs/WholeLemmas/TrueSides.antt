-- Where parts are sound with true faces, and the border between them is, each side of the joined chains names what lies there, and what
-- lies at the one end of a straight line that meets no chain lies at the other.
use Rattle.std.proofs.Common.{◌≡◌, inl, inr, ℕ, ◌+◌, ◌<◌, ℤ, pos, ◌+ℤ◌, ◌<ℤ◌, Bool, true, Some, List, slice_get, refl, sym, ap, subst, ◌∙◌, arith}
use Rattle.std.proofs.lemmas.Bool.{cases_lt}
use Rattle.std.proofs.lemmas.Int.{ints}
use Rattle.tl_geom.specs.declared.rational.Rational.{Rational}
use Rattle.tl_geom.specs.declared.segment.Segment.{Segment}
use Rattle.tl_map_county.specs.declared.sides.Side.{Side}
use Rattle.tl_map_county.specs.declared.sides.Side.TheVariants.{Outside, Polygon}
use Rattle.tl_map_county.specs.TheMap.{MapChain}
use Rattle.tl_check_inside.specs.Inside.{is_polygon, IsCountAt}
use Rattle.tl_check_faces.specs.Facing.{IsOfChain, IsOff, IsStrictlyOn}
use Rattle.tl_check_faces.specs.Truth.{LiesAt, IsNearer, IsTrueAbout, AreSidesTrue, AreFacesTrue, turn_about}
use Rattle.tl_check_faces.proofs.CrossingsLemmas.Apart.{apart}
use Rattle.tl_check_faces.proofs.Staying.{stays}
use Rattle.tl_check_faces.proofs.Whole.{one_count}
use Rattle.tigertopo_border.specs.Whole.Lines.{DoPolygonsStay}
use Rattle.tigertopo_border.specs.Whole.Told.{IsNamed, AreTold}
use Rattle.tigertopo_border.specs.Whole.Homes.{Homes, is_of, own, tells, name, is_border, IsOfParts, IsToldByParts}
use Rattle.tigertopo_border.proofs.WholeLemmas.Told.{IsToldAs, told_as, off}
use Rattle.tigertopo_border.proofs.WholeLemmas.Beside.{less_near}
use Rattle.tigertopo_border.proofs.WholeLemmas.Lies.{AreGood}
use Rattle.tigertopo_border.proofs.WholeLemmas.Names.{tells_left, tells_right, own_there, is_of_own, border_left, border_right}
use Rattle.tigertopo_border.proofs.WholeLemmas.Fitting.{AreParts}
use Rattle.tigertopo_border.proofs.WholeLemmas.Faces.{polygon_counts, unknown, by_part, by_border, one_there}

module _ (homes : Homes) (two : (p q : ℕ) → homes.part p ≡ homes.part q → homes.number p ≡ homes.number q → p ≡ q)
    (n : ℕ) (chains border : List MapChain) (parts : AreParts homes n chains border) where
  -- one side of a chain, and the places toward it
  module _ (u : Segment) (r : Rational) (on : IsStrictlyOn u r) (pick : MapChain → Side) (toward : Rational → Type 0)
      (told_there : (all : List MapChain) (chain : MapChain) (e : ℤ) → IsTrueAbout all chain u r e → (q : Rational) → IsNearer e r q → IsOff all q → toward q → LiesAt all q (pick chain))
      (c : ℕ) (chain : MapChain) (is : slice_get chains c ≡ Some chain) (k : ℕ) (from : slice_get chain.points k ≡ Some u.a) (to : slice_get chain.points (k + 1) ≡ Some u.b)
      (named : (names : Side → Side) (one : MapChain) → IsNamed names chain one → pick one ≡ names (pick chain))
      (known : IsOfParts homes n (pick chain)) (tells_it : (j : ℕ) → is_of homes j (pick chain) ≡ true → tells homes j chain ≡ true)
      (on_border : pick chain ≡ Outside → is_border homes chain ≡ true) where
    IsTrueToward : Type 0
    IsTrueToward = (e : ℤ) × (pos 0 <ℤ e) × ((q : Rational) → IsNearer e r q → IsOff chains q → toward q → LiesAt chains q (pick chain))

    in_view : (names : Side → Side) (told : MapChain → Bool) (others : List MapChain) → AreTold names told chains others → AreGood others → told chain ≡ true →
        (e : ℤ) × (pos 0 <ℤ e) × ((q : Rational) → IsNearer e r q → IsOff chains q → toward q → LiesAt others q (names (pick chain)))
    in_view names told others are good t =
        let s : IsToldAs names told chains others chain c = told_as names told chains others are c chain is t in
        let of : IsOfChain others s.one u = record {
          c = s.place_of;
          k = k;
          is = s.is;
          from = subst (λ p. slice_get p k ≡ Some u.a) (sym s.named.points) from;
          to = subst (λ p. slice_get p (k + 1) ≡ Some u.b) (sym s.named.points) to;
        } in
        let a : (e : ℤ) × IsTrueAbout others s.one u r e = good.truth.true_sides s.one u r of on in (
          a.0,
          a.1.some,
          λ q near clear at. subst (LiesAt others q) (named names s.one s.named)
              (told_there others s.one a.0 a.1 q near (off names told chains others are q clear) at),
        )

    pub side_about : (e : ℤ) × (pos 0 <ℤ e) × ((q : Rational) → IsNearer e r q → IsOff chains q → toward q → LiesAt chains q (pick chain))
    side_about = go (pick chain) refl
      where
        go : (s : Side) → pick chain ≡ s → (e : ℤ) × (pos 0 <ℤ e) × ((q : Rational) → IsNearer e r q → IsOff chains q → toward q → LiesAt chains q (pick chain))
        go Outside f =
            let a : (e : ℤ) × (pos 0 <ℤ e) × ((q : Rational) → IsNearer e r q → IsOff chains q → toward q → LiesAt border q (name homes (pick chain))) =
            in_view (name homes) (is_border homes) border parts.border_told parts.border_good (on_border f) in (
              a.0,
              a.1,
              λ q near clear at. subst (LiesAt chains q) (sym f)
                  (by_border homes two n chains border parts q clear (subst (λ s. LiesAt border q (name homes s)) f (a.2 q near clear at))),
            )
        go (Polygon p) f =
            let lt : homes.part p < n = subst (IsOfParts homes n) f known in
            let a : (e : ℤ) × (pos 0 <ℤ e) × ((q : Rational) → IsNearer e r q → IsOff chains q → toward q → LiesAt (parts.part (homes.part p) lt) q (own homes (homes.part p) (pick chain))) =
            in_view (own homes (homes.part p)) (tells homes (homes.part p)) (parts.part (homes.part p) lt) (parts.told (homes.part p) lt) (parts.good (homes.part p) lt)
            (tells_it (homes.part p) (ap (is_of homes (homes.part p)) f ∙ is_of_own homes p)) in (
              a.0,
              a.1,
              λ q near clear at. subst (LiesAt chains q) (sym f)
                  (by_part homes two n chains border parts q clear p (homes.part p) refl lt
                  (subst (LiesAt (parts.part (homes.part p) lt) q) (ap (own homes (homes.part p)) f ∙ own_there homes (homes.part p) p refl) (a.2 q near clear at))),
            )

  pub sides_true : AreSidesTrue chains
  sides_true chain u r of on =
      let t : IsToldByParts homes n chain = parts.known of.c chain of.is in
      let left : (e : ℤ) × (pos 0 <ℤ e) × ((q : Rational) → IsNearer e r q → IsOff chains q → pos 0 <ℤ turn_about u q → LiesAt chains q chain.left) =
      side_about u r on (λ c. c.left) (λ q. pos 0 <ℤ turn_about u q) (λ all c e a q near clear at. a.left q near clear at) of.c chain of.is of.k of.from of.to
      (λ names one named. named.left) t.left (λ j e. tells_left homes j chain e) (λ e. border_left homes chain e) in
      let right : (e : ℤ) × (pos 0 <ℤ e) × ((q : Rational) → IsNearer e r q → IsOff chains q → turn_about u q <ℤ pos 0 → LiesAt chains q chain.right) =
      side_about u r on (λ c. c.right) (λ q. turn_about u q <ℤ pos 0) (λ all c e a q near clear at. a.right q near clear at) of.c chain of.is of.k of.from of.to
      (λ names one named. named.right) t.right (λ j e. tells_right homes j chain e) (λ e. border_right homes chain e) in
      let some = left.1 in let some' = right.1 in
      let e : ℤ = left.0 +ℤ right.0 in (
        e,
        record {
          some = omega (arith, ints, some, some');
          left = λ q near clear at. left.2 q (less_near left.0 e r q some (omega (arith, ints, some')) near) clear at;
          right = λ q near clear at. right.2 q (less_near right.0 e r q some' (omega (arith, ints, some)) near) clear at;
        },
      )

  pub joined_faces : AreFacesTrue chains
  joined_faces = record { one_polygon = λ q clear. one_there homes two n chains border parts q clear; true_sides = sides_true }

  -- ---- counts of polygons stay

  pub polygons_stay : DoPolygonsStay chains
  polygons_stay p q line i m count = elim (cases_lt (homes.part i) n) [
    | inl lt ↦
        let part : List MapChain = parts.part (homes.part i) lt in
        let good : AreGood part = parts.good (homes.part i) lt in
        let clear : (r : Rational) → IsOff chains r → IsOff part r =
        λ r h. off (own homes (homes.part i)) (tells homes (homes.part i)) chains part (parts.told (homes.part i) lt) r h in
        (polygon_counts homes two n chains border parts (homes.part i) i refl lt q m).0
        ((stays part good.proper (is_polygon (homes.number i)) p q
        (record {
          first = λ c chain is differ on. clear p line.first c chain is on;
          last = λ c chain is differ on. clear q line.last c chain is on;
          between = λ r b c chain is differ on. clear r (line.between r b) c chain is on;
        })
        (apart part good.planar good.proper) good.agree m).0
        ((polygon_counts homes two n chains border parts (homes.part i) i refl lt p m).1 count))
    | inr le ↦
        let none : IsCountAt chains p (is_polygon i) (pos 0) = unknown homes two n chains border parts i (λ lt. omega (arith, lt, le)) p in
        subst (IsCountAt chains q (is_polygon i)) (one_count chains p (is_polygon i) (pos 0) m none count)
        (unknown homes two n chains border parts i (λ lt. omega (arith, lt, le)) q)
  ]
