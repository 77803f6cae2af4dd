-- Chains are planar exactly where no two of their segments conflict.
use Rattle.std.proofs.Common.{◌≡◌, inl, inr, ⊎_elim, ℕ, ◌+◌, ◌<◌, Some, List, ap, subst, refl, arith}
use Rattle.std.specs.Prelude.{slice_get}
use Rattle.std.proofs.lemmas.Bool.{cases_order, cases_eq}
use Rattle.std.proofs.lemmas.Option.{slice_get_within}
use Rattle.tl_geom.specs.declared.rational.Rational.{Rational}
use Rattle.tl_geom.specs.Plane.{end_b}
use Rattle.tl_map_county.specs.TheMap.{MapChain}
use Rattle.tl_map_county.specs.Segments.{segments_before, IsSegmentOf}
use Rattle.tl_check_planar.specs.Planar.{IsOnSegment, IsOnChain, IsChainEnd, IsPlanar}
use Rattle.tl_check_planar.specs.Meets.{IsSharedBy, IsMeet, AreFree}
use Rattle.tl_check_planar.specs.Keeping.Apart.{one_found}
use Rattle.tl_check_planar.proofs.Numbering.{in_order}

-- both are of one chain
pub one_points : (chains : List MapChain) (s t : ℕ) (r : Rational) (m : IsSharedBy chains s t r) → m.c ≡ m.d → m.second.chain ≡ m.first.chain
one_points chains s t r m e =
    one_found m.second.chain m.first.chain (slice_get chains m.d) m.second.is (subst (λ n. slice_get chains n ≡ Some m.first.chain) e m.first.is)

pub planar_free : (chains : List MapChain) → IsPlanar chains → (s t : ℕ) → s < t → AreFree chains s t
planar_free chains p s t lt r m =
    ⊎_elim
    (λ e. inr (
      e,
      let before : segments_before chains m.c ≡ segments_before chains m.d = ap (λ n. segments_before chains n) e in
          p.simple m.c m.first.chain m.first.is m.i m.j r (omega (arith, lt, before, m.first.number, m.second.number)) m.on_first
          (subst (λ (z : MapChain). IsOnSegment z.points m.j r) (one_points chains s t r m e) m.on_second),
    ))
    (λ ne. inl (ne, p.apart m.c m.d m.first.chain m.second.chain ne m.first.is m.second.is r (m.i, m.on_first) (m.j, m.on_second)))
    (cases_eq m.c m.d)

-- the segment of a chain that holds a point, by its number
segment_at : (chains : List MapChain) (c i : ℕ) (chain : MapChain) (r : Rational) → slice_get chains c ≡ Some chain → IsOnSegment chain.points i r → IsSegmentOf chains (segments_before chains c + i) c i
segment_at chains c i chain r e on =
    record { chain = chain; is = e; place = slice_get_within chain.points (i + 1) (end_b on.segment) on.to; number = refl }

both : (chains : List MapChain) → ((s t : ℕ) → s < t → AreFree chains s t) → (c d : ℕ) (one other : MapChain) → c < d → slice_get chains c ≡ Some one → slice_get chains d ≡ Some other →
    (r : Rational) → IsOnChain one.points r → IsOnChain other.points r → IsChainEnd one.points r × IsChainEnd other.points r
both chains free c d one other lt e f r on on' =
    let first : IsSegmentOf chains (segments_before chains c + on.0) c on.0 = segment_at chains c on.0 one r e on.1 in
    let second : IsSegmentOf chains (segments_before chains d + on'.0) d on'.0 = segment_at chains d on'.0 other r f on'.1 in
    ⊎_elim (λ w. w.1) (λ w. absurd (omega (arith, lt, w.0)))
    (free (segments_before chains c + on.0) (segments_before chains d + on'.0)
    (in_order chains (segments_before chains c + on.0) (segments_before chains d + on'.0) c on.0 d on'.0 first second lt) r
    (record { c = c; i = on.0; d = d; j = on'.0; first = record { chain = one; is = e; place = slice_get_within one.points (on.0 + 1) (end_b on.1.segment) on.1.to; number = refl }; second = record { chain = other; is = f; place = slice_get_within other.points (on'.0 + 1) (end_b on'.1.segment) on'.1.to; number = refl }; on_first = on.1; on_second = on'.1 }))

pub free_planar : (chains : List MapChain) → ((s t : ℕ) → s < t → AreFree chains s t) → IsPlanar chains
free_planar chains free =
    record {
      apart = λ c d one other ne e f r on on'.
          ⊎_elim (λ same. absurd (ne same))
          (λ w. ⊎_elim (λ lt. both chains free c d one other lt e f r on on')
          (λ lt. let back : IsChainEnd other.points r × IsChainEnd one.points r = both chains free d c other one lt f e r on' on in (back.1, back.0)) w)
          (cases_order c d);
      simple = λ c chain e i j r lt on on'.
          ⊎_elim (λ w. absurd (w.0 refl)) (λ w. w.1)
          (free (segments_before chains c + i) (segments_before chains c + j) (omega (arith, lt)) r
          (record {
            c = c;
            i = i;
            d = c;
            j = j;
            first = record { chain = chain; is = e; place = slice_get_within chain.points (i + 1) (end_b on.segment) on.to; number = refl };
            second = record { chain = chain; is = e; place = slice_get_within chain.points (j + 1) (end_b on'.segment) on'.to; number = refl };
            on_first = on;
            on_second = on';
          }));
    }

pub meet_not_planar : (chains : List MapChain) (s t : ℕ) (r : Rational) → s < t → IsMeet chains s t r → ¬ IsPlanar chains
meet_not_planar chains s t r lt meet planar = meet.refused (planar_free chains planar s t lt r meet.shared)
