-- What is told of two segments by their numbers, from what is told of the segments.
use Rattle.std.proofs.Common.{◌≡◌, inl, inr, ⊎_elim, ◌↔◌, ℕ, ◌+◌, pos, ◌-ℤ◌, ◌*ℤ◌, Option, Some, None, List, sym, subst}
use Rattle.std.specs.Prelude.{slice_get}
use Rattle.tl_geom.specs.declared.point.Point.{Point}
use Rattle.tl_geom.specs.declared.rational.Rational.{Rational}
use Rattle.tl_geom.specs.declared.segment.Segment.{Segment}
use Rattle.tl_geom.specs.Plane.{IsOn, IsBetween, cross}
use Rattle.tl_geom.specs.Contact.{IsShared}
use Rattle.tl_geom.proofs.Contacts.{crossing_shared}
use Rattle.tl_map_county.specs.TheMap.{MapChain}
use Rattle.tl_map_county.specs.Segments.{IsSegmentOf, Joins}
use Rattle.tl_check_planar.specs.declared.allowed.Allowed.{Allowed}
use Rattle.tl_check_planar.specs.Planar.{IsOnSegment}
use Rattle.tl_check_planar.specs.Meets.{IsSharedBy, IsAllowed}
use Rattle.tl_check_planar.specs.Searching.{IsContactPoint, MayTell}
use Rattle.tl_check_planar.specs.Keeping.Allowing.{IsOneOf, MayRefuse}
use Rattle.tl_check_planar.specs.Keeping.Apart.{one_found}
use Rattle.tl_check_planar.proofs.Numbering.{one_chain, one_place}

-- ---- a segment is told by its ends

abbrev OnBetween : (a b : Point) → Rational → Type 0
OnBetween a b r =
    (cross (b.x -ℤ a.x) (b.y -ℤ a.y) (r.x -ℤ r.d *ℤ a.x) (r.y -ℤ r.d *ℤ a.y) ≡ pos 0)
    × IsBetween (r.d *ℤ a.x) (r.d *ℤ b.x) r.x × IsBetween (r.d *ℤ a.y) (r.d *ℤ b.y) r.y

on_ends : (s t : Segment) (r : Rational) → s.a ≡ t.a → s.b ≡ t.b → IsOn s r → IsOn t r
on_ends s t r e f on =
    let k : OnBetween t.a t.b r = subst (λ z. OnBetween t.a z r) f (subst (λ z. OnBetween z s.b r) e (on.straight, on.x_between, on.y_between)) in
    record { straight = k.0; x_between = k.1; y_between = k.2 }

-- ---- a segment by one of its numbers

pub record IsNumbered (chains : List MapChain) (s : ℕ) (one : Segment) : Type 0 where
  pub c : ℕ
  pub k : ℕ
  pub number : IsSegmentOf chains s c k
  pub joins : Joins chains c k one

module _ (chains : List MapChain) (s : ℕ) (one : Segment) (n : IsNumbered chains s one) where
  joined : n.joins.chain ≡ n.number.chain
  joined = one_found n.joins.chain n.number.chain (slice_get chains n.c) n.joins.is n.number.is

  -- what is on the segment is on it by its number
  on_number : (r : Rational) → IsOn one r → IsOnSegment n.number.chain.points n.k r
  on_number r on =
      record {
        segment = one;
        from = subst (λ (z : MapChain). slice_get z.points n.k ≡ Some one.a) joined n.joins.from;
        to = subst (λ (z : MapChain). slice_get z.points (n.k + 1) ≡ Some one.b) joined n.joins.to;
        on = on;
      }

  -- and back, by any other
  on_segment : (d i : ℕ) (number : IsSegmentOf chains s d i) (r : Rational) → IsOnSegment number.chain.points i r → IsOn one r
  on_segment d i number r on =
      let e : d ≡ n.c = one_chain chains s d i n.c n.k number n.number in
      let f : i ≡ n.k = one_place chains s d i n.c n.k number n.number in
      let same : number.chain ≡ n.joins.chain = one_found number.chain n.joins.chain (slice_get chains n.c) (subst (λ m. slice_get chains m ≡ Some number.chain) e number.is) n.joins.is in
      on_ends on.segment one r
      (one_found on.segment.a one.a (slice_get n.joins.chain.points n.k)
      (subst (λ (z : MapChain). slice_get z.points n.k ≡ Some on.segment.a) same (subst (λ m. slice_get number.chain.points m ≡ Some on.segment.a) f on.from)) n.joins.from)
      (one_found on.segment.b one.b (slice_get n.joins.chain.points (n.k + 1))
      (subst (λ (z : MapChain). slice_get z.points (n.k + 1) ≡ Some on.segment.b) same (subst (λ m. slice_get number.chain.points (m + 1) ≡ Some on.segment.b) f on.to)) n.joins.to)
      on.on

-- ---- two segments

module _ (chains : List MapChain) (s t : ℕ) (one other : Segment) (first : IsNumbered chains s one) (second : IsNumbered chains t other) where
  abbrev shared_by : (r : Rational) → IsShared one other r → IsSharedBy chains s t r
  shared_by r k =
      record {
        c = first.c;
        i = first.k;
        d = second.c;
        j = second.k;
        first = first.number;
        second = second.number;
        on_first = on_number chains s one first r k.on_first;
        on_second = on_number chains t other second r k.on_second;
      }

  shared : (r : Rational) → IsSharedBy chains s t r → IsShared one other r
  shared r m =
      record {
        on_first = on_segment chains s one first m.c m.i m.first r m.on_first;
        on_second = on_segment chains t other second m.d m.j m.second r m.on_second;
      }

  contact_shared : (q : Rational) → IsContactPoint one other q → IsShared one other q
  contact_shared q =
      ⊎_elim (λ w. subst (λ z. IsShared one other z) (sym w.2) w.1.only.shared) (λ k. crossing_shared one other q k)

  pub told : (allowed : Allowed) (o : Option Rational) → ((r : Rational) (m : IsSharedBy chains s t r) → IsOneOf allowed r ↔ IsAllowed chains s t r m) →
      MayRefuse one other allowed o → MayTell chains s t o
  told allowed None allows free = λ r m. (allows r m).0 (free r (shared r m))
  told allowed (Some r) allows k =
      record {
        meet = record { shared = shared_by r k.shared; refused = λ h. k.refused ((allows r (shared_by r k.shared)).1 h) };
        one = one;
        other = other;
        joins_one = first.joins;
        joins_other = second.joins;
        by =
            ⊎_elim (λ h. inl h)
            (λ w. inr (w.0, shared_by w.0 (contact_shared w.0 w.1), w.1, (allows w.0 (shared_by w.0 (contact_shared w.0 w.1))).0 w.2)) k.by;
      }
