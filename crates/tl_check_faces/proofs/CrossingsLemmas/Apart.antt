-- Where chains are planar, darts head apart: two darts of one node and one heading share places that may not be shared.
use Rattle.std.proofs.Common.{◌≡◌, ◌≢◌, ◌⊎◌, inl, inr, ⊎_elim, ℕ, ◌+◌, ◌-◌, ◌/◌, ◌%◌, ◌<◌, pos, ◌-ℤ◌, ◌*ℤ◌, ◌+ℤ◌, ◌<ℤ◌, Bool, true, false, Some, List, length, refl, sym, ap, subst, ◌∙◌, arith}
use Rattle.std.specs.Prelude.{slice_get}
use Rattle.std.proofs.lemmas.Bool.{false≢true, eqb-true, eq-eqb}
use Rattle.tl_geom.specs.declared.point.Point.{Point}
use Rattle.tl_geom.specs.declared.direction.Direction.{Direction}
use Rattle.tl_geom.specs.declared.rational.Rational.{Rational}
use Rattle.tl_geom.specs.declared.segment.Segment.{Segment}
use Rattle.tl_geom.specs.Plane.{IsOn, IsSame, cross, whole}
use Rattle.tl_geom.specs.Turning.{IsOneDirection}
use Rattle.tl_geom.proofs.Order.{one_back}
use Rattle.tl_geom.proofs.Places.{same_sym, same_trans}
use Rattle.tl_map_county.specs.TheMap.{MapChain}
use Rattle.tl_map_county.specs.Darts.{is_along, dart_start, dart_second, Heads}
use Rattle.tl_tree_index.proofs.Times.{same_or}
use Rattle.tl_check_planar.specs.Planar.{IsVertex, IsOnSegment, IsChainEnd, IsSimple, IsPlanar}
use Rattle.tl_check_planar.specs.Keeping.Apart.{one_found}
use Rattle.tl_check_planar.proofs.Ends.{at_vertex}
use Rattle.tl_check_sides.proofs.Headings.{dart_within, heads_alike}
use Rattle.tl_check_faces.specs.Crossings.Headings.{AreProper, HeadApart, IsOnFirst, FirstsOverlap}
use Rattle.tl_check_faces.proofs.CrossingsLemmas.Darts.{AreFirst, IsDart, dart_of}
use Rattle.tl_check_faces.proofs.CrossingsLemmas.OneWay.{ShareTwo, share_two}
use Rattle.tl_check_sides.proofs.Turns.{joined}

-- two places that are one vertex are one
one_vertex : (points : List Point) (k : ℕ) (r q : Rational) → IsVertex points k r → IsVertex points k q → IsSame r q
one_vertex points k r q v w =
    same_trans r (whole v.point) q v.same (same_sym q (whole v.point) (at_vertex points k v.point q v.is w))

-- the first segment of a dart
abbrev segment_of : (points : List Point) (along : Bool) → AreFirst points along → Segment
segment_of points along f = record { a = f.first; b = f.second; different = f.differ }

not_vertex : (points : List Point) (k : ℕ) (p : Point) (r : Rational) → slice_get points k ≡ Some p → ¬ IsSame r (whole p) → ¬ IsVertex points k r
not_vertex points k p r is not v = not (at_vertex points k p r is v)

-- two different places beside one end of a chain aren't both ends of it
one_far : (points : List Point) (near far : ℕ) (p : Point) (r q : Rational) → slice_get points near ≡ Some p → ¬ IsSame r q → ¬ IsSame r (whole p) → ¬ IsSame q (whole p) → IsVertex points near r ⊎ IsVertex points far r → IsVertex points near q ⊎ IsVertex points far q → ⊥
one_far points near far p r q is differ r_not q_not r_end q_end =
    ⊎_elim (not_vertex points near p r is r_not)
    (λ v. ⊎_elim (not_vertex points near p q is q_not) (λ w. differ (one_vertex points far r q v w)) q_end)
    r_end

turned : {A B : Type 0} → A ⊎ B → B ⊎ A
turned h = ⊎_elim inr inl h

not_both : (points : List Point) (along : Bool) (f : AreFirst points along) (r q : Rational) → ¬ IsSame r q → ¬ IsSame r (whole f.first) → ¬ IsSame q (whole f.first) → IsChainEnd points r → IsChainEnd points q → ⊥
not_both points along f r q differ r_not q_not r_end q_end =
    ⊎_elim
    (λ start. one_far points 0 (length points - 1) f.first r q (ap (slice_get points) (sym start.1) ∙ f.first_is) differ r_not q_not r_end q_end)
    (λ finish. one_far points (length points - 1) 0 f.first r q (ap (slice_get points) (sym finish.1) ∙ f.first_is) differ r_not q_not (turned r_end) (turned q_end))
    f.is_end

-- the first and the last segment of a simple chain don't leave one point in one direction
one_way : (points : List Point) (a b : Bool) (f : AreFirst points a) (g : AreFirst points b) → f.k ≡ 0 → f.place ≡ 0 → f.l ≡ 1 → g.k ≡ length points - 1 → g.place + 2 ≡ length points → f.first ≡ g.first → IsSimple points → ShareTwo (segment_of points a f) (segment_of points b g) → ⊥
one_way points a b f g k place l last long meet simple two =
    same_or g.place 0
    (λ none.
    let one : f.l ≡ g.k = omega (arith, l, last, long, none) in
    let same : f.second ≡ g.first = one_found f.second g.first (slice_get points f.l) f.second_is (ap (slice_get points) one ∙ g.first_is) in
    f.differ (meet ∙ sym same))
    (λ some.
    let before : f.place < g.place = omega (arith, place, some) in
    let start : slice_get points 0 ≡ Some f.first = ap (slice_get points) (sym k) ∙ f.first_is in
    let at : (r : Rational) → IsOnSegment points f.place r → IsOnSegment points g.place r → ¬ IsSame r (whole f.first) → IsVertex points g.place r = λ r on on_other not.
    ⊎_elim (λ between. between.vertex) (λ closing. absurd (not_vertex points 0 f.first r start not closing.start)) (simple f.place g.place r before on on_other) in
    two.differ (one_vertex points g.place two.one two.other
    (at two.one (f.on (segment_of points a f) two.one refl refl two.one_first) (g.on (segment_of points b g) two.one refl refl two.one_second) two.one_inside)
    (at two.other (f.on (segment_of points a f) two.other refl refl two.other_first) (g.on (segment_of points b g) two.other refl refl two.other_second) two.other_inside)))

on_one_chain : (one other : MapChain) → one ≡ other → (a b : Bool) (f : AreFirst one.points a) (g : AreFirst other.points b) → f.k ≡ 0 → f.place ≡ 0 → f.l ≡ 1 → g.k ≡ length other.points - 1 → g.place + 2 ≡ length other.points → g.l ≡ g.place → f.first ≡ g.first → IsSimple one.points → ShareTwo (segment_of one.points a f) (segment_of other.points b g) → ⊥
on_one_chain one other same =
    subst
    (λ (z : MapChain). (a b : Bool) (f : AreFirst one.points a) (g : AreFirst z.points b) → f.k ≡ 0 → f.place ≡ 0 → f.l ≡ 1 → g.k ≡ length z.points - 1 → g.place + 2 ≡ length z.points → g.l ≡ g.place → f.first ≡ g.first → IsSimple one.points → ShareTwo (segment_of one.points a f) (segment_of z.points b g) → ⊥)
    same (λ a b f g k place l last long second. one_way one.points a b f g k place l last long)

odd : (d : ℕ) → is_along d ≡ false → d % 2 ≡ 1
odd d e = same_or (d % 2) 1 (λ one. one) (λ ne. let even : d % 2 ≡ 0 = omega (arith, ne) in absurd (false≢true (sym e ∙ eq-eqb (d % 2) 0 even)))

-- ---- two darts

module _ (chains : List MapChain) where
  own_segment : (d : ℕ) → IsDart chains d → Segment
  own_segment d own = segment_of own.chain.points (is_along d) own.points

  step_x : (d : ℕ) (own : IsDart chains d) → own.heading.x ≡ own.points.second.x -ℤ own.points.first.x
  step_x d own =
      let p : own.heads.first ≡ own.points.first = one_found own.heads.first own.points.first (dart_start chains d) own.heads.starts own.starts in
      let q : own.heads.second ≡ own.points.second = one_found own.heads.second own.points.second (dart_second chains d) own.heads.goes own.goes in
      own.heads.x ∙ (λ i. (q i).x -ℤ (p i).x)

  step_y : (d : ℕ) (own : IsDart chains d) → own.heading.y ≡ own.points.second.y -ℤ own.points.first.y
  step_y d own =
      let p : own.heads.first ≡ own.points.first = one_found own.heads.first own.points.first (dart_start chains d) own.heads.starts own.starts in
      let q : own.heads.second ≡ own.points.second = one_found own.heads.second own.points.second (dart_second chains d) own.heads.goes own.goes in
      own.heads.y ∙ (λ i. (q i).y -ℤ (p i).y)

  shared : (d e : ℕ) (own : IsDart chains d) (other : IsDart chains e) → own.points.first ≡ other.points.first → IsOneDirection own.heading other.heading → ShareTwo (segment_of own.chain.points (is_along d) own.points) (segment_of other.chain.points (is_along e) other.points)
  shared d e own other meet one =
      share_two (segment_of own.chain.points (is_along d) own.points) (segment_of other.chain.points (is_along e) other.points)
      (ap (λ (p : Point). p.x) meet) (ap (λ (p : Point). p.y) meet)
      (sym (λ i. cross (step_x d own i) (step_y d own i) (step_x e other i) (step_y e other i)) ∙ one.parallel)
      (subst (λ z. pos 0 <ℤ z) (λ i. step_x d own i *ℤ step_x e other i +ℤ step_y d own i *ℤ step_y e other i) one.same_way)

  one_node : (d e : ℕ) (node : Point) (own : IsDart chains d) (other : IsDart chains e) → dart_start chains d ≡ Some node → dart_start chains e ≡ Some node → own.points.first ≡ other.points.first
  one_node d e node own other d_starts e_starts =
      one_found own.points.first node (dart_start chains d) own.starts d_starts ∙ sym (one_found other.points.first node (dart_start chains e) other.starts e_starts)

  one_heading : (d e : ℕ) (first second : Direction) (own : IsDart chains d) (other : IsDart chains e) → Heads chains d first → Heads chains e second → IsOneDirection first second → IsOneDirection own.heading other.heading
  one_heading d e first second own other d_heads e_heads one =
      joined own.heading first other.heading (heads_alike chains d own.heading first own.heads d_heads)
      (joined first second other.heading one (heads_alike chains e second other.heading e_heads other.heads))

  -- a place on the segment between a dart's first two points
  on_first : (d : ℕ) (own : IsDart chains d) (r : Rational) → IsOn (segment_of own.chain.points (is_along d) own.points) r → IsOnFirst chains d r
  on_first d own r on = record { segment = segment_of own.chain.points (is_along d) own.points; from = own.starts; to = own.goes; on = on }

  -- the first segments of two darts of one node and one heading overlap
  pub overlap : AreProper chains → (d e : ℕ) (node : Point) (first second : Direction) → dart_start chains d ≡ Some node → dart_start chains e ≡ Some node → Heads chains d first → Heads chains e second → IsOneDirection first second → FirstsOverlap chains d e node
  overlap proper d e node first second d_starts e_starts d_heads e_heads one =
      let own : IsDart chains d = dart_of chains proper d (dart_within chains d node d_starts) in
      let other : IsDart chains e = dart_of chains proper e (dart_within chains e node e_starts) in
      let two = shared d e own other (one_node d e node own other d_starts e_starts) (one_heading d e first second own other d_heads e_heads one) in
      let start : own.points.first ≡ node = one_found own.points.first node (dart_start chains d) own.starts d_starts in
      record {
        one = two.one;
        other = two.other;
        differ = two.differ;
        beside = (subst (λ p. ¬ IsSame two.one (whole p)) start two.one_inside, subst (λ p. ¬ IsSame two.other (whole p)) start two.other_inside);
        one_on = (on_first d own two.one two.one_first, on_first e other two.one two.one_second);
        other_on = (on_first d own two.other two.other_first, on_first e other two.other two.other_second);
      }

  module _ (planar : IsPlanar chains) where
    two_chains : (d e : ℕ) (own : IsDart chains d) (other : IsDart chains e) → own.points.first ≡ other.points.first → IsOneDirection own.heading other.heading → d / 2 ≢ e / 2 → ⊥
    two_chains d e own other meet one ne =
        let two = shared d e own other meet one in
        let s : Segment = segment_of own.chain.points (is_along d) own.points in
        let t : Segment = segment_of other.chain.points (is_along e) other.points in
        let alone = planar.apart (d / 2) (e / 2) own.chain other.chain ne own.is other.is in
        not_both own.chain.points (is_along d) own.points two.one two.other two.differ two.one_inside two.other_inside
        (alone two.one (own.points.place, own.points.on s two.one refl refl two.one_first) (other.points.place, other.points.on t two.one refl refl two.one_second)).0
        (alone two.other (own.points.place, own.points.on s two.other refl refl two.other_first) (other.points.place, other.points.on t two.other refl refl two.other_second)).0

    along_or : (d e : ℕ) (own : IsDart chains d) (other : IsDart chains e) → own.points.first ≡ other.points.first → IsOneDirection own.heading other.heading → d / 2 ≡ e / 2 → is_along d ≡ true → is_along e ≡ false → ⊥
    along_or d e own other meet one same along against =
        let chain : own.chain ≡ other.chain = one_found own.chain other.chain (slice_get chains (d / 2)) own.is (ap (slice_get chains) same ∙ other.is) in
        ⊎_elim
        (λ start. ⊎_elim
        (λ start'. false≢true (sym against ∙ start'.0))
        (λ finish. on_one_chain own.chain other.chain chain (is_along d) (is_along e) own.points other.points start.1 start.2 start.3 finish.1 finish.2 finish.3 meet (planar.simple (d / 2) own.chain own.is) (shared d e own other meet one))
        other.points.is_end)
        (λ finish. false≢true (sym finish.0 ∙ along))
        own.points.is_end

    pub apart : AreProper chains → HeadApart chains
    apart proper d e node first second d_starts e_starts d_heads e_heads one =
        let own : IsDart chains d = dart_of chains proper d (dart_within chains d node d_starts) in
        let other : IsDart chains e = dart_of chains proper e (dart_within chains e node e_starts) in
        let meet : own.points.first ≡ other.points.first = one_node d e node own other d_starts e_starts in
        let way : IsOneDirection own.heading other.heading = one_heading d e first second own other d_heads e_heads one in
        same_or d e (λ same. same) (λ ne.
        same_or (d / 2) (e / 2)
        (λ chain. by_ways d e ne chain (is_along d) (is_along e) refl refl
        (along_or d e own other meet way chain) (λ a b. along_or e d other own (sym meet) (one_back own.heading other.heading way) (sym chain) b a))
        (λ apart. absurd (two_chains d e own other meet way apart)))
      where
        by_ways : (d e : ℕ) → d ≢ e → d / 2 ≡ e / 2 → (a b : Bool) → is_along d ≡ a → is_along e ≡ b → (is_along d ≡ true → is_along e ≡ false → ⊥) → (is_along d ≡ false → is_along e ≡ true → ⊥) → d ≡ e
        by_ways d e ne chain true false p q no_first no_second = absurd (no_first p q)
        by_ways d e ne chain false true p q no_first no_second = absurd (no_second p q)
        by_ways d e ne chain true true p q no_first no_second =
            let x = eqb-true (d % 2) 0 p in let y = eqb-true (e % 2) 0 q in omega (arith, x, y, chain)
        by_ways d e ne chain false false p q no_first no_second =
            let x = odd d p in let y = odd e q in omega (arith, x, y, chain)
