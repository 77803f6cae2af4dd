-- Where chains are sound and their faces are true, so are those of them that are told, if the chains that are left out are named alike on
-- both sides.
use Rattle.std.proofs.Common.{◌≡◌, ⊎_elim, ℕ, ◌+◌, ℤ, pos, ◌+ℤ◌, Bool, true, false, Some, List, slice_get, sym, ap, subst, ◌∙◌, arith}
use Rattle.std.proofs.lemmas.Int.{ints}
use Rattle.tl_geom.specs.declared.rational.Rational.{Rational}
use Rattle.tl_map_county.specs.declared.sides.Side.{Side}
use Rattle.tl_map_county.specs.declared.sides.Side.TheVariants.{Outside}
use Rattle.tl_map_county.specs.TheMap.{MapChain}
use Rattle.tl_check_inside.specs.Inside.{is_polygon}
use Rattle.tl_check_faces.specs.Crossings.Headings.{AreProper}
use Rattle.tl_check_faces.specs.Facing.{IsOfChain, IsOff}
use Rattle.tl_check_faces.specs.Clear.{IsOffBoundary}
use Rattle.tl_check_faces.specs.Truth.{LiesAt, HasOnePolygon, IsNearer, IsTrueAbout, AreSidesTrue, turn_about}
use Rattle.tl_check_faces.proofs.CrossingsLemmas.Apart.{apart}
use Rattle.tl_check_faces.proofs.Bounds.{AreBounded, some_bound}
use Rattle.tl_check_faces.proofs.OnePolygon.{lies_by}
use Rattle.tl_check_faces.proofs.Others.{nearness}
use Rattle.tl_check_faces.proofs.Staying.{stays}
use Rattle.tl_check_faces.proofs.Sums.{number_of}
use Rattle.tigertopo_border.specs.Whole.Lines.{DoPolygonsStay}
use Rattle.tigertopo_border.specs.Whole.Told.{AreTold}
use Rattle.tigertopo_border.proofs.WholeLemmas.Told.{place, StandsAt, there, proper, planar, off_boundary_back}
use Rattle.tigertopo_border.proofs.WholeLemmas.Counts.{counts}
use Rattle.tigertopo_border.proofs.WholeLemmas.Beside.{less_near, some_nearness, off_near}
use Rattle.tigertopo_border.proofs.WholeLemmas.Deciding.{IsMet, on_some_or}
use Rattle.tigertopo_border.proofs.WholeLemmas.Lies.{AreGood, HasCounts, counted, counts_of, on_chain}
use Rattle.tigertopo_border.proofs.WholeLemmas.Sectors.{sides_agree}

module _ (names : Side → Side) (told : MapChain → Bool) (outside : names Outside ≡ Outside)
    (passed : (chain : MapChain) → told chain ≡ false → names chain.left ≡ names chain.right)
    (chains others : List MapChain) (are : AreTold names told chains others) (good : AreGood chains) where
  -- what lies at a place, by the names
  named_counts : (q : Rational) (side : Side) → HasCounts chains q side → HasCounts others q (names side)
  named_counts q side has S none =
      (counts names told passed chains others are good.proper q S (number_of (S (names side)))).1 (has (λ s. S (names s)) (ap S outside ∙ none))

  pub named_lies : (q : Rational) (side : Side) → HasCounts chains q side → LiesAt others q (names side)
  named_lies q side has = lies_by others q (names side) (named_counts q side has)

  -- a place on no chain that is told is of no boundary
  off_all : (S : Side → Bool) (q : Rational) → IsOff others q → IsOffBoundary chains (λ s. S (names s)) q
  off_all S q clear =
      off_boundary_back names told chains others are S (λ c chain is t. ap S (passed chain t)) q (λ c chain is differ on. clear c chain is on)

  -- on a chain that is left out lies what it names, on both sides
  on_untold : (q : Rational) → IsOff others q → IsMet (λ c. true) chains q → (side : Side) × LiesAt others q side
  on_untold q clear m = (
    names m.chain.left,
    lies_by others q (names m.chain.left)
        (λ S none.
        (counts names told passed chains others are good.proper q S (number_of (S (names m.chain.left)))).1
        (on_chain chains good m.c m.chain m.is q m.on.0 m.on.1 (λ s. S (names s)) (ap S outside ∙ none) (off_all S q clear))),
  )

  one_there : HasOnePolygon others
  one_there q clear = ⊎_elim (on_untold q clear)
      (λ free.
      let s : (side : Side) × HasCounts chains q side = counted chains good q free in
      (names s.0, named_lies q s.0 s.1))
      (on_some_or chains q)

  true_there : AreSidesTrue others
  true_there one u r of on = go (there names told chains others are of.c one of.is)
    where
      go : StandsAt names told chains one (place names told chains of.c) → (e : ℤ) × IsTrueAbout others one u r e
      go s = (
        e,
        record {
          some = let a = about.1.some in let b = some_nearness r n.0 in omega (arith, ints, a, b);
          left = λ q near clear h.
              subst (LiesAt others q) (sym s.named.left)
              (named_lies q s.chain.left (counts_of chains good q (free q near (λ z. omega (arith, ints, h, z))) s.chain.left
              (about.1.left q (as_near q near) (free q near (λ z. omega (arith, ints, h, z))) h)));
          right = λ q near clear h.
              subst (LiesAt others q) (sym s.named.right)
              (named_lies q s.chain.right (counts_of chains good q (free q near (λ z. omega (arith, ints, h, z))) s.chain.right
              (about.1.right q (as_near q near) (free q near (λ z. omega (arith, ints, h, z))) h)));
        },
      )
        where
          of_all : IsOfChain chains s.chain u
          of_all = record {
            c = place names told chains of.c;
            k = of.k;
            is = s.is;
            from = subst (λ p. slice_get p of.k ≡ Some u.a) s.named.points of.from;
            to = subst (λ p. slice_get p (of.k + 1) ≡ Some u.b) s.named.points of.to;
          }

          about : (e : ℤ) × IsTrueAbout chains s.chain u r e
          about = good.truth.true_sides s.chain u r of_all on

          n : (n : ℕ) × AreBounded n chains
          n = some_bound chains

          e : ℤ
          e = about.0 +ℤ nearness r n.0

          as_near : (q : Rational) → IsNearer e r q → IsNearer about.0 r q
          as_near q near = less_near about.0 e r q about.1.some (let b = some_nearness r n.0 in omega (arith, ints, b)) near

          free : (q : Rational) → IsNearer e r q → ¬ (turn_about u q ≡ pos 0) → IsOff chains q
          free q near some =
              off_near chains good.planar n.0 n.1 s.chain u of_all r on q
              (less_near (nearness r n.0) e r q (some_nearness r n.0) (let a = about.1.some in omega (arith, ints, a)) near) some

  polygons_stay : DoPolygonsStay others
  polygons_stay p q line i m count =
      (counts names told passed chains others are good.proper q (is_polygon i) m).1
      ((stays chains good.proper (λ s. is_polygon i (names s)) p q
      (record {
        first = off_all (is_polygon i) p line.first;
        last = off_all (is_polygon i) q line.last;
        between = λ r b. off_all (is_polygon i) r (line.between r b);
      })
      (apart chains good.planar good.proper) good.agree m).0
      ((counts names told passed chains others are good.proper p (is_polygon i) m).0 count))

  pub told_good : AreGood others
  told_good =
      let some : AreProper others = proper names told chains others are good.proper in
      record {
        proper = some;
        planar = planar names told chains others are good.planar;
        agree = sides_agree others some (planar names told chains others are good.planar) true_there polygons_stay;
        truth = record { one_polygon = one_there; true_sides = true_there };
      }
