-- Each dart of proper chains has a next one about its node, and where darts head apart no other dart has the same next one.
use Rattle.std.proofs.Common.{◌≡◌, ◌≢◌, ◌⊎◌, inl, inr, ⊎_elim, ℕ, zero, suc, ◌<◌, ◌-ℤ◌, Some, List, sym, ap, subst, ◌∙◌, arith}
use Rattle.std.proofs.lemmas.Int.{ints}
use Rattle.tl_geom.specs.declared.point.Point.{Point}
use Rattle.tl_geom.specs.declared.direction.Direction.{Direction}
use Rattle.tl_geom.specs.Turning.{IsOneDirection, IsWithin}
use Rattle.tl_geom.proofs.Places.{point_same}
use Rattle.tl_geom.proofs.Signs.{sign}
use Rattle.tl_map_county.specs.TheMap.{MapChain}
use Rattle.tl_map_county.specs.Darts.{dart_start, Heads}
use Rattle.tl_tree_index.proofs.Times.{same_or}
use Rattle.tl_check_sides.specs.Sides.{dart_count, IsNext}
use Rattle.tl_check_sides.proofs.Headings.{dart_within, heads_alike}
use Rattle.tl_check_faces.specs.Crossings.Headings.{AreProper, HeadApart}
use Rattle.tl_check_faces.proofs.CrossingsLemmas.Darts.{IsDart, dart_of}
use Rattle.tl_check_sides.proofs.Turns.{is_within, not_within, within_longer, within_alike, one_within}

one_point : (p q : Point) → (p ≡ q) ⊎ (p ≢ q)
one_point p q =
    ⊎_elim (λ less. inr (λ e. let x = ap (λ (z : Point). z.x) e in omega (arith, ints, less, x)))
    (λ rest. ⊎_elim
    (λ x. ⊎_elim (λ less. inr (λ e. let y = ap (λ (z : Point). z.y) e in omega (arith, ints, less, y)))
    (λ rest. ⊎_elim (λ y. inl (point_same p q (omega (arith, ints, x)) (omega (arith, ints, y)))) (λ more. inr (λ e. let y = ap (λ (z : Point). z.y) e in omega (arith, ints, more, y))) rest)
    (sign (p.y -ℤ q.y)))
    (λ more. inr (λ e. let x = ap (λ (z : Point). z.x) e in omega (arith, ints, more, x)))
    rest)
    (sign (p.x -ℤ q.x))

module _ (chains : List MapChain) (proper : AreProper chains) where
  -- of the darts below n that start at the node none heads strictly within the turn to this one
  record IsFirst (node : Point) (from : Direction) (n : ℕ) : Type 0 where
    dart : ℕ
    starts : dart_start chains dart ≡ Some node
    to : Direction
    heads : Heads chains dart to
    none : (c : ℕ) (heading : Direction) → c < n → dart_start chains c ≡ Some node → Heads chains c heading → ¬ IsWithin from to heading

  last_or : {P : Type 0} (c n : ℕ) → c < suc n → (c < n → P) → (c ≡ n → P) → P
  last_or c n lt f g = same_or c n g (λ ne. f (omega (arith, lt, ne)))

  -- the dart of this number goes before, heads further, or starts elsewhere
  nearer : (node : Point) (from : Direction) (n : ℕ) (best : IsFirst node from n) (new : IsDart chains n) → new.points.first ≡ node → IsWithin from best.to new.heading → IsFirst node from (suc n)
  nearer node from n best new at within = record {
    dart = n;
    starts = new.starts ∙ ap Some at;
    to = new.heading;
    heads = new.heads;
    none = λ c heading lt c_starts c_heads inside. last_or c n lt
        (λ less. best.none c heading less c_starts c_heads (within_longer from best.to new.heading heading within inside))
        (λ e. not_within from new.heading heading (heads_alike chains n heading new.heading (subst (λ i. Heads chains i heading) e c_heads) new.heads) inside);
  }

  further : (node : Point) (from : Direction) (n : ℕ) (best : IsFirst node from n) (new : IsDart chains n) → (new.points.first ≡ node → ¬ IsWithin from best.to new.heading) → IsFirst node from (suc n)
  further node from n best new not = record {
    dart = best.dart;
    starts = best.starts;
    to = best.to;
    heads = best.heads;
    none = λ c heading lt c_starts c_heads inside. last_or c n lt
        (λ less. best.none c heading less c_starts c_heads inside)
        (λ e.
        let both : Some new.points.first ≡ Some node = sym new.starts ∙ ap (dart_start chains) (sym e) ∙ c_starts in
        let at : new.points.first ≡ node = cc in
        not at (within_alike from best.to best.to heading new.heading (heads_alike chains best.dart best.to best.to best.heads best.heads) (heads_alike chains n heading new.heading (subst (λ i. Heads chains i heading) e c_heads) new.heads) inside));
  }

  first_below : (a : ℕ) (node : Point) (from : Direction) → dart_start chains a ≡ Some node → Heads chains a from → (n : ℕ) → n < suc (dart_count chains) → IsFirst node from n
  first_below a node from starts heads zero lt = record { dart = a; starts = starts; to = from; heads = heads; none = λ c heading no. absurd (omega (arith, no)) }
  first_below a node from starts heads (suc n) lt =
      let best : IsFirst node from n = first_below a node from starts heads n (omega (arith, lt)) in
      let new : IsDart chains n = dart_of chains proper n (omega (arith, lt)) in
      ⊎_elim
      (λ at. ⊎_elim (λ within. nearer node from n best new at within) (λ not. further node from n best new (λ e. not)) (is_within from best.to new.heading))
      (λ other. further node from n best new (λ e. absurd (other e)))
      (one_point new.points.first node)

  -- a dart has a next one
  pub next_of : (a : ℕ) → a < dart_count chains → (b : ℕ) × IsNext chains a b
  next_of a lt =
      let own : IsDart chains a = dart_of chains proper a lt in
      let best : IsFirst own.points.first own.heading (dart_count chains) = first_below a own.points.first own.heading own.starts own.heads (dart_count chains) (omega arith) in (
        best.dart,
        record {
          node = own.points.first;
          a_starts = own.starts;
          b_starts = best.starts;
          from = own.heading;
          to = best.to;
          a_heads = own.heads;
          b_heads = best.heads;
          none_between = λ c heading c_starts c_heads. best.none c heading (dart_within chains c own.points.first c_starts) c_starts c_heads;
        },
      )

-- no two darts have one next
pub one_next : (chains : List MapChain) → HeadApart chains → (a b c : ℕ) → IsNext chains a c → IsNext chains b c → a ≡ b
one_next chains apart a b c n m =
    let both : Some n.node ≡ Some m.node = sym n.b_starts ∙ m.b_starts in
    let node : n.node ≡ m.node = cc in
    let b_starts : dart_start chains b ≡ Some n.node = m.a_starts ∙ ap Some (sym node) in
    let a_starts : dart_start chains a ≡ Some m.node = n.a_starts ∙ ap Some node in
    same_or a b (λ e. e) (λ ne.
    let other : ¬ IsOneDirection n.from m.from = λ one. ne (apart a b n.node n.from m.from n.a_starts b_starts n.a_heads m.a_heads one) in
    let inside : IsWithin m.from n.to n.from = one_within n.from m.from n.to other (n.none_between b m.from b_starts m.a_heads) in
    let to : IsOneDirection n.to m.to = heads_alike chains c n.to m.to n.b_heads m.b_heads in
    absurd (m.none_between a n.from a_starts n.a_heads (within_alike m.from n.to m.to n.from n.from to (heads_alike chains a n.from n.from n.a_heads n.a_heads) inside)))
