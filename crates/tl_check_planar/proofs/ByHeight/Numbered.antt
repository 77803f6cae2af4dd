-- A number is of one segment, and so is what is told of the segment.
use Rattle.std.proofs.Common.{inl, inr, ⊎_elim, ℕ, List, sym, subst}
use Rattle.tl_geom.specs.declared.rational.Rational.{Rational}
use Rattle.tl_geom.specs.declared.segment.Segment.{Segment}
use Rattle.tl_geom.specs.Plane.{IsOn, IsSame, whole}
use Rattle.tl_geom.specs.Contact.{IsEnd, IsShared}
use Rattle.tl_geom.proofs.Places.{same_sym}
use Rattle.tl_geom.proofs.Crossings.{end_same}
use Rattle.tl_map_county.specs.TheMap.{MapChain}
use Rattle.tl_check_planar.specs.Meets.{IsSharedBy}
use Rattle.tl_check_planar.proofs.Numbering.{HaveSameEnds, same_ends}
use Rattle.tl_check_planar.specs.ByHeight.Neighbours.{IsNumbered, AreApartOrAtEnds}

pub one_segment : (chains : List MapChain) (s : ℕ) (u w : Segment) → IsNumbered chains s u → IsNumbered chains s w → HaveSameEnds u w
one_segment chains s u w m n = same_ends chains s m.c m.k n.c n.k u w m.number m.joins n.number n.joins

pub on_same : (u w : Segment) (r : Rational) → HaveSameEnds u w → IsOn u r → IsOn w r
on_same u w r e on = record {
  straight = rw (sym e.first, sym e.last) on.straight;
  x_between = rw (sym e.first, sym e.last) on.x_between;
  y_between = rw (sym e.first, sym e.last) on.y_between;
}

-- the rational point lies on the segment with this number, whatever way it is given
abbrev pub IsOnIt : List MapChain → ℕ → Rational → Type 0
IsOnIt chains s r = (u : Segment) → IsNumbered chains s u → IsOn u r

pub on_it : (chains : List MapChain) (s : ℕ) (u : Segment) (r : Rational) → IsNumbered chains s u → IsOn u r → IsOnIt chains s r
on_it chains s u r is on w is' = on_same u w r (one_segment chains s u w is is') on

-- it is an end of that segment
pub record IsEndOfIt (chains : List MapChain) (s : ℕ) (r : Rational) : Type 0 where
  pub segment : Segment
  pub is : IsNumbered chains s segment
  pub end : IsEnd segment r

pub end_of_it : (chains : List MapChain) (s : ℕ) (u : Segment) (r : Rational) → IsNumbered chains s u → IsEndOfIt chains s r → IsEnd u r
end_of_it chains s u r is e =
    let same : HaveSameEnds e.segment u = one_segment chains s e.segment u e.is is in
    ⊎_elim (λ k. inl (subst (λ p. IsSame r (whole p)) same.first k)) (λ k. inr (subst (λ p. IsSame r (whole p)) same.last k)) e.end

-- the segment that holds a shared point
pub first_of : (chains : List MapChain) (s t : ℕ) (r : Rational) (m : IsSharedBy chains s t r) → IsNumbered chains s m.on_first.segment
first_of chains s t r m = record {
  c = m.c;
  k = m.i;
  number = m.first;
  joins = record { chain = m.first.chain; is = m.first.is; from = m.on_first.from; to = m.on_first.to };
}

pub second_of : (chains : List MapChain) (s t : ℕ) (r : Rational) (m : IsSharedBy chains s t r) → IsNumbered chains t m.on_second.segment
second_of chains s t r m = record {
  c = m.d;
  k = m.j;
  number = m.second;
  joins = record { chain = m.second.chain; is = m.second.is; from = m.on_second.from; to = m.on_second.to };
}

-- what segments share that are apart or at ends is an end of both
pub both_ended : (u w : Segment) (r : Rational) → AreApartOrAtEnds u w → IsOn u r → IsOn w r → IsEnd u r × IsEnd w r
both_ended u w r free on on' =
    let shared : IsShared u w r = record { on_first = on; on_second = on' } in
    ⊎_elim (λ apart. absurd (apart r shared))
    (λ m.
    let here : IsSame (whole m.0) r = same_sym r (whole m.0) (m.1.only.only r shared) in
    (end_same u (whole m.0) r here m.1.first_end, end_same w (whole m.0) r here m.1.second_end)) free
