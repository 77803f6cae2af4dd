-- What the tests of neighbours say.
use Rattle.std.proofs.Common.{◌≡◌, ◌⊎◌, inl, inr, ⊎_elim, ℕ, Bool, true, false, IsTrue, Ordering, ℤ, pos, ◌+ℤ◌, ◌<ℤ◌, ◌≤ℤ◌, List, refl, sym, ap, subst, ◌∙◌, arith}
use Rattle.std.proofs.lemmas.Int.{ints}
use Rattle.std.proofs.lemmas.Cmp.{int_ranked}
use Rattle.std.specs.declared.cmp.Ordering.TheVariants.{Less, Equal, Greater}
use Rattle.std.specs.Prelude.{int_lt}
use Rattle.std.specs.Ordering.{int_cmp, is_ge, is_le, is_lt, MatchOrdering}
use Rattle.tl_geom.specs.declared.point.Point.{Point}
use Rattle.tl_geom.specs.declared.segment.Segment.{Segment}
use Rattle.tl_geom.specs.Plane.{turn_of, IsSame, whole}
use Rattle.tl_map_county.specs.TheMap.{MapChain}
use Rattle.tl_check_planar.proofs.Numbering.{HaveSameEnds}
use Rattle.tl_check_planar.specs.ByHeight.Heights.{height, low_end, high_end}
use Rattle.tl_check_planar.specs.ByHeight.Neighbours.{IsNumbered, IsWestOf, AreApartOrAtEnds, AreTested}
use Rattle.tl_check_planar.proofs.ByHeight.Numbered.{one_segment, on_same}

-- what is no is not yes
pub never : {A : Type 0} → false ≡ true → A
never e = absurd (cc)

-- ---- turns

le_cases : (z : ℤ) (o : Ordering) → MatchOrdering o (z <ℤ pos 0) (z ≡ pos 0) (pos 0 <ℤ z) → IsTrue (is_le o) → z ≤ℤ pos 0
le_cases z Less m h = omega (arith, ints, m)
le_cases z Equal m h = omega (arith, ints, m)
le_cases z Greater m h = absurd (cc)

pub le_test : (z : ℤ) (o : Ordering) (t : Bool) → o ≡ int_cmp z (pos 0) → t ≡ is_le o → IsTrue t → z ≤ℤ pos 0
le_test z o t e f h = le_cases z o (int_ranked z (pos 0) o e) (sym f ∙ h)

lt_cases : (z : ℤ) (o : Ordering) → MatchOrdering o (z <ℤ pos 0) (z ≡ pos 0) (pos 0 <ℤ z) → IsTrue (is_lt o) → z <ℤ pos 0
lt_cases z Less m h = m
lt_cases z Equal m h = absurd (cc)
lt_cases z Greater m h = absurd (cc)

pub lt_test : (z : ℤ) (o : Ordering) (t : Bool) → o ≡ int_cmp z (pos 0) → t ≡ is_lt o → IsTrue t → z <ℤ pos 0
lt_test z o t e f h = lt_cases z o (int_ranked z (pos 0) o e) (sym f ∙ h)

-- where a turn isn't to the right
ge_cases : (z : ℤ) (o : Ordering) → MatchOrdering o (z <ℤ pos 0) (z ≡ pos 0) (pos 0 <ℤ z) → IsTrue (is_ge o) → pos 0 ≤ℤ z
ge_cases z Less m h = absurd (cc)
ge_cases z Equal m h = omega (arith, ints, m)
ge_cases z Greater m h = omega (arith, ints, m)

pub ge_test : (z : ℤ) (o : Ordering) (t : Bool) → o ≡ int_cmp z (pos 0) → t ≡ is_ge o → IsTrue t → pos 0 ≤ℤ z
ge_test z o t e f h = ge_cases z o (int_ranked z (pos 0) o e) (sym f ∙ h)

-- what is moved by the same stays in its order
pub lower_moved : (a b h k m : ℤ) → h ≡ a +ℤ m → k ≡ b +ℤ m → int_lt h k ≡ int_lt a b
lower_moved a b h k m e f = grind (arith, ints)

-- ---- which of two is west

module _ (K : ℤ) (u w : Segment) (a b c e : Point) (low : a ≡ low_end K u) (high : b ≡ high_end K u) (low' : c ≡ low_end K w) (high' : e ≡ high_end K w) where
  pub is_west : (pos 0 ≤ℤ turn_of c e a) ⊎ (turn_of a b c ≤ℤ pos 0) → (pos 0 ≤ℤ turn_of c e b) ⊎ (turn_of a b e ≤ℤ pos 0) → IsWestOf K u w
  is_west below above =
      record {
        below =
            ⊎_elim (λ k. inl (subst (λ z. pos 0 ≤ℤ z) (λ i. turn_of (low' i) (high' i) (low i)) k))
            (λ k. inr (subst (λ z. z ≤ℤ pos 0) (λ i. turn_of (low i) (high i) (low' i)) k)) below;
        above =
            ⊎_elim (λ k. inl (subst (λ z. pos 0 ≤ℤ z) (λ i. turn_of (low' i) (high' i) (high i)) k))
            (λ k. inr (subst (λ z. z ≤ℤ pos 0) (λ i. turn_of (low i) (high i) (high' i)) k)) above;
      }

-- ---- by numbers

-- the lower and the higher end by the ends
pub same_low : (K : ℤ) (u w : Segment) → HaveSameEnds u w → low_end K u ≡ low_end K w
same_low K u w e = rw (e.first, e.last) refl

pub same_high : (K : ℤ) (u w : Segment) → HaveSameEnds u w → high_end K u ≡ high_end K w
same_high K u w e = rw (e.first, e.last) refl

pub low_height : (K : ℤ) (u w : Segment) → HaveSameEnds u w → height K (low_end K u) ≡ height K (low_end K w)
low_height K u w e = ap (height K) (same_low K u w e)

pub high_height : (K : ℤ) (u w : Segment) → HaveSameEnds u w → height K (high_end K u) ≡ height K (high_end K w)
high_height K u w e = ap (height K) (same_high K u w e)

west_same : (K : ℤ) (u w u' w' : Segment) → HaveSameEnds u u' → HaveSameEnds w w' → IsWestOf K u w → IsWestOf K u' w'
west_same K u w u' w' e f west =
    is_west K u' w' (low_end K u) (high_end K u) (low_end K w) (high_end K w) (same_low K u u' e) (same_high K u u' e) (same_low K w w' f) (same_high K w w' f) west.below west.above

free_same : (u w u' w' : Segment) → HaveSameEnds u u' → HaveSameEnds w w' → AreApartOrAtEnds u w → AreApartOrAtEnds u' w'
free_same u w u' w' e f =
    ⊎_elim
    (λ apart. inl (λ r shared. apart r (record { on_first = on_same u' u r (turned u u' e) shared.on_first; on_second = on_same w' w r (turned w w' f) shared.on_second })))
    (λ m. inr (
      m.0,
      record {
        only = record {
          shared = record { on_first = on_same u u' (whole m.0) e m.1.only.shared.on_first; on_second = on_same w w' (whole m.0) f m.1.only.shared.on_second };
          only = λ q shared. m.1.only.only q (record { on_first = on_same u' u q (turned u u' e) shared.on_first; on_second = on_same w' w q (turned w w' f) shared.on_second });
        };
        first_end = ⊎_elim (λ k. inl (subst (λ p. IsSame (whole m.0) (whole p)) e.first k)) (λ k. inr (subst (λ p. IsSame (whole m.0) (whole p)) e.last k)) m.1.first_end;
        second_end = ⊎_elim (λ k. inl (subst (λ p. IsSame (whole m.0) (whole p)) f.first k)) (λ k. inr (subst (λ p. IsSame (whole m.0) (whole p)) f.last k)) m.1.second_end;
      },
    ))
  where
    turned : (u w : Segment) → HaveSameEnds u w → HaveSameEnds w u
    turned u w e = record { first = sym e.first; last = sym e.last }

pub tested : (K : ℤ) (chains : List MapChain) (s t : ℕ) (u w : Segment) → IsNumbered chains s u → IsNumbered chains t w → IsWestOf K u w → AreApartOrAtEnds u w → AreTested K chains s t
tested K chains s t u w is is' west free = record {
  west = λ u' w' n n'. west_same K u w u' w' (one_segment chains s u u' is n) (one_segment chains t w w' is' n') west;
  free = λ u' w' n n'. free_same u w u' w' (one_segment chains s u u' is n) (one_segment chains t w w' is' n') free;
}
