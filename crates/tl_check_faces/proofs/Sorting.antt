-- The segments that meet a line of a height, all of them, from west to east.
use Rattle.std.proofs.Common.{◌≡◌, ◌⊎◌, inl, inr, ⊎_elim, ℕ, zero, suc, ◌+◌, ◌-◌, ◌<◌, ◌≤◌, ℤ, pos, ◌*ℤ◌, cond, eqb, Some, List, [], ◌∷◌, ◌++◌, length, get_or, take, refl, sym, ap, subst, ◌∙◌, arith}
use Rattle.std.specs.Prelude.{slice_get}
use Rattle.std.proofs.lemmas.Bool.{cases_lt}
use Rattle.std.proofs.lemmas.Int.{ints, by_lt_z}
use Rattle.std.proofs.lemmas.List.Sums.{sum_by-cons}
use Rattle.std.proofs.lemmas.Option.{slice_get-get_or}
use Rattle.tl_geom.specs.declared.point.Point.{Point}
use Rattle.tl_geom.specs.declared.rational.Rational.{Rational}
use Rattle.tl_geom.specs.declared.segment.Segment.{Segment}
use Rattle.tl_map_county.specs.TheMap.{MapChain}
use Rattle.tl_map_county.specs.Segments.{segments_before, IsSegmentOf}
use Rattle.tl_tree_index.specs.Hits.{times}
use Rattle.tl_tree_index.proofs.Times.{same_or, times-same, times-other}
use Rattle.tl_check_planar.specs.Planar.{IsPlanar}
use Rattle.tl_check_planar.specs.Keeping.Apart.{one_found}
use Rattle.tl_check_planar.proofs.Numbering.{one_chain, one_place, HaveSameEnds}
use Rattle.tl_check_planar.specs.ByHeight.Heights.{height, height_of, low_end, high_end}
use Rattle.tl_check_planar.specs.ByHeight.Neighbours.{IsNumbered}
use Rattle.tl_check_planar.proofs.ByHeight.Numbered.{one_segment}
use Rattle.tl_check_faces.proofs.Steep.{IsSpanned}
use Rattle.tl_check_faces.proofs.Numbers.{le_lt}
use Rattle.tl_check_faces.proofs.Lines.{IsWestward, met}
use Rattle.tl_check_faces.proofs.Ends.{point_or}
use Rattle.tl_check_faces.proofs.Items.{Item, ends, one_west, IsLine}

-- ---- the segment with a number, if its points differ

pub record IsPlaced (chains : List MapChain) (s : ℕ) : Type 0 where
  pub c : ℕ
  pub k : ℕ
  pub number : IsSegmentOf chains s c k

placed : (chains : List MapChain) (s : ℕ) → s < segments_before chains (length chains) → IsPlaced chains s
placed [] s lt = absurd (omega (arith, lt))
placed (x ∷ chains) s lt =
    let all = sum_by-cons (λ (z : MapChain). length z.points - 1) x (take (length chains) chains) in
    elim (cases_lt s (length x.points - 1)) [
      | inl here ↦ record { c = 0; k = s; number = record { chain = x; is = refl; place = omega (arith, here); number = omega arith } }
      | inr later ↦
          let rest : IsPlaced chains (s - (length x.points - 1)) = placed chains (s - (length x.points - 1)) (omega (arith, lt, later, all)) in
          let more = sum_by-cons (λ (z : MapChain). length z.points - 1) x (take rest.c chains) in
          let own = rest.number.number in
          record { c = suc rest.c; k = rest.k; number = record { chain = rest.number.chain; is = rest.number.is; place = rest.number.place; number = omega (arith, own, more, later) } }
    ]

-- the ends of a segment with this number are the two points there
pub record AreEndsAt (points : List Point) (k : ℕ) (u : Segment) : Type 0 where
  pub from : slice_get points k ≡ Some u.a
  pub to : slice_get points (k + 1) ≡ Some u.b

ends_at : (chains : List MapChain) (s c k : ℕ) (u : Segment) (number : IsSegmentOf chains s c k) → IsNumbered chains s u → AreEndsAt number.chain.points k u
ends_at chains s c k u number is =
    let chain : is.c ≡ c = one_chain chains s is.c is.k c k is.number number in
    let place : is.k ≡ k = one_place chains s is.c is.k c k is.number number in
    let same : is.joins.chain ≡ number.chain = one_found is.joins.chain number.chain (slice_get chains c) (subst (λ n. slice_get chains n ≡ Some is.joins.chain) chain is.joins.is) number.is in
    record {
      from = subst (λ (z : MapChain). slice_get z.points k ≡ Some u.a) same (subst (λ n. slice_get is.joins.chain.points n ≡ Some u.a) place is.joins.from);
      to = subst (λ (z : MapChain). slice_get z.points (k + 1) ≡ Some u.b) same (subst (λ n. slice_get is.joins.chain.points (n + 1) ≡ Some u.b) place is.joins.to);
    }

no_point : Point
no_point = record { x = pos 0; y = pos 0 }

pub spanned_same : (K : ℤ) (u w : Segment) (r : Rational) → HaveSameEnds u w → IsSpanned K u r → IsSpanned K w r
spanned_same K u w r e s = record { from = rw (sym e.first, sym e.last) s.from; to = rw (sym e.first, sym e.last) s.to }

-- ---- lists of items

module _ (K : ℤ) (chains : List MapChain) (r : Rational) where
  -- the item stands in the list
  abbrev pub Has : Item K chains r → List (Item K chains r) → Type 0
  Has z [] = ⊥
  Has z (x ∷ xs) = (z ≡ x) ⊎ Has z xs

  -- each item is west of all that stand behind it
  abbrev pub IsSorted : List (Item K chains r) → Type 0
  IsSorted [] = Unit {0}
  IsSorted (x ∷ xs) = ((y : Item K chains r) → Has y xs → IsWestward x.at.place y.at.place) × IsSorted xs

  abbrev pub numbers : List (Item K chains r) → List ℕ
  numbers [] = []
  numbers (x ∷ xs) = x.s ∷ numbers xs

  pub has_front : (y : Item K chains r) (xs ys : List (Item K chains r)) → Has y xs → Has y (xs ++ ys)
  has_front y [] ys h = absurd h
  has_front y (x ∷ xs) ys h = ⊎_elim (λ e. inl e) (λ later. inr (has_front y xs ys later)) h

  pub has_back : (y : Item K chains r) (xs ys : List (Item K chains r)) → Has y ys → Has y (xs ++ ys)
  has_back y [] ys h = h
  has_back y (x ∷ xs) ys h = inr (has_back y xs ys h)

  pub sorted_back : (xs ys : List (Item K chains r)) → IsSorted (xs ++ ys) → IsSorted ys
  sorted_back [] ys s = s
  sorted_back (x ∷ xs) ys s = sorted_back xs ys s.1

  pub has_or : (y : Item K chains r) (xs ys : List (Item K chains r)) → Has y (xs ++ ys) → Has y xs ⊎ Has y ys
  has_or y [] ys h = inr h
  has_or y (x ∷ xs) ys h = ⊎_elim (λ e. inl (inl e)) (λ later. ⊎_elim (λ k. inl (inr k)) (λ k. inr k) (has_or y xs ys later)) h

  -- what stands in the front of a list is west of what stands behind it
  pub sorted_front : (xs ys : List (Item K chains r)) → IsSorted (xs ++ ys) → (y z : Item K chains r) → Has y xs → Has z ys → IsWestward y.at.place z.at.place
  sorted_front [] ys s y z h k = absurd h
  sorted_front (x ∷ xs) ys s y z h k = ⊎_elim
      (λ e. subst (λ (w : Item K chains r). IsWestward w.at.place z.at.place) (sym e) (s.0 z (has_back z xs ys k)))
      (λ later. sorted_front xs ys s.1 y z later k) h

  times-cons : (i x : ℕ) (xs : List ℕ) → times i (x ∷ xs) ≡ cond (eqb i x) 1 0 + times i xs
  times-cons i x xs = refl

  pub times-both : (i : ℕ) (xs ys : List (Item K chains r)) → times i (numbers (xs ++ ys)) ≡ times i (numbers xs) + times i (numbers ys)
  times-both i [] ys = omega arith
  times-both i (x ∷ xs) ys =
      let rest = times-both i xs ys in
      let all = times-cons i x.s (numbers (xs ++ ys)) in let own = times-cons i x.s (numbers xs) in
      omega (arith, rest, all, own)

  pub no_times : (i : ℕ) (xs : List (Item K chains r)) → ((y : Item K chains r) → Has y xs → ¬ (i ≡ y.s)) → times i (numbers xs) ≡ 0
  no_times i [] none = refl
  no_times i (x ∷ xs) none = times-other i x.s (numbers xs) (none x (inl refl)) ∙ no_times i xs (λ y h. none y (inr h))

  -- the item with a number that stands in the list
  pub record IsFound (i : ℕ) (xs : List (Item K chains r)) : Type 0 where
    pub item : Item K chains r
    pub has : Has item xs
    pub is : i ≡ item.s

  pub found : (i : ℕ) (xs : List (Item K chains r)) → 0 < times i (numbers xs) → IsFound i xs
  found i [] h = absurd (let no : 0 < 0 = h in omega (arith, no))
  found i (x ∷ xs) h =
      same_or i x.s (λ e. record { item = x; has = inl refl; is = e })
      (λ ne.
      let rest : IsFound i xs = found i xs (let less = times-other i x.s (numbers xs) ne in omega (arith, h, less)) in
      record { item = rest.item; has = inr rest.has; is = rest.is })

  -- ---- the list parted by one of its items

  pub record IsSplit (x : Item K chains r) (xs : List (Item K chains r)) : Type 0 where
    pub front : List (Item K chains r)
    pub back : List (Item K chains r)
    pub are : xs ≡ front ++ (x ∷ back)
    pub west : (y : Item K chains r) → Has y front → IsWestward y.at.place x.at.place
    pub east : (y : Item K chains r) → Has y back → IsWestward x.at.place y.at.place

  pub split : (x : Item K chains r) (xs : List (Item K chains r)) → IsSorted xs → Has x xs → IsSplit x xs
  split x [] sorted has = absurd has
  split x (z ∷ xs) sorted has = ⊎_elim
      (λ e. record {
        front = [];
        back = xs;
        are = ap (λ w. w ∷ xs) (sym e);
        west = λ y h. absurd h;
        east = λ y h. subst (λ (w : Item K chains r). IsWestward w.at.place y.at.place) (sym e) (sorted.0 y h);
      })
      (λ later.
      let rest : IsSplit x xs = split x xs sorted.1 later in
      record {
        front = z ∷ rest.front;
        back = rest.back;
        are = ap (λ l. z ∷ l) rest.are;
        west = λ y h. ⊎_elim (λ e. subst (λ (w : Item K chains r). IsWestward w.at.place x.at.place) (sym e) (sorted.0 x later)) (λ k. rest.west y k) h;
        east = rest.east;
      })
      has

  -- ---- one item more

  west_by : (x y z : Item K chains r) → IsWestward x.at.place y.at.place → IsWestward y.at.place z.at.place → IsWestward x.at.place z.at.place
  west_by x y z one other =
      let p : Rational = x.at.place in let q : Rational = y.at.place in let t : Rational = z.at.place in
      le_lt p.x p.d q.x q.d t.x t.d p.above_zero q.above_zero t.above_zero (omega (arith, ints, one)) other

  record IsInserted (z : Item K chains r) (old new : List (Item K chains r)) : Type 0 where
    sorted : IsSorted new
    either : (y : Item K chains r) → Has y new → (y ≡ z) ⊎ Has y old
    times_are : (i : ℕ) → times i (numbers new) ≡ times i (z.s ∷ numbers old)

  inserted : (z : Item K chains r) (xs : List (Item K chains r)) → IsSorted xs → ((y : Item K chains r) → Has y xs → IsWestward z.at.place y.at.place ⊎ IsWestward y.at.place z.at.place) →
      (new : List (Item K chains r)) × IsInserted z xs new
  inserted z [] sorted parted = (z ∷ [], record { sorted = ((λ y h. absurd h), tt); either = λ y h. h; times_are = λ i. refl })
  inserted z (x ∷ xs) sorted parted =
      ⊎_elim
      (λ west. (
        z ∷ (x ∷ xs),
        record {
          sorted = ((λ y h. ⊎_elim (λ e. subst (λ (w : Item K chains r). IsWestward z.at.place w.at.place) (sym e) west) (λ later. west_by z x y west (sorted.0 y later)) h), sorted);
          either = λ y h. h;
          times_are = λ i. refl;
        },
      ))
      (λ east. behind east (inserted z xs sorted.1 (λ y h. parted y (inr h))))
      (parted x (inl refl))
    where
      behind : IsWestward x.at.place z.at.place → (new : List (Item K chains r)) × IsInserted z xs new → (new : List (Item K chains r)) × IsInserted z (x ∷ xs) new
      behind east (new, rest) = (
        x ∷ new,
        record {
          sorted = ((λ y h. ⊎_elim (λ e. subst (λ (w : Item K chains r). IsWestward x.at.place w.at.place) (sym e) east) (λ k. sorted.0 y k) (rest.either y h)), rest.sorted);
          either = λ y h. ⊎_elim (λ e. inr (inl e)) (λ later. ⊎_elim (λ e. inl e) (λ k. inr (inr k)) (rest.either y later)) h;
          times_are = λ i.
              let more = rest.times_are i in
              let one = times-cons i x.s (numbers new) in let two = times-cons i z.s (numbers xs) in
              let three = times-cons i z.s (x.s ∷ numbers xs) in let four = times-cons i x.s (numbers xs) in
              omega (arith, more, one, two, three, four);
        },
      )

  -- ---- all items

  -- the list holds those of the first n segments that meet the line, each once
  pub record IsListed (n : ℕ) (xs : List (Item K chains r)) : Type 0 where
    pub sorted : IsSorted xs
    pub below : (y : Item K chains r) → Has y xs → y.s < n
    pub once : (s : ℕ) (u : Segment) → s < n → IsNumbered chains s u → IsSpanned K u r → times s (numbers xs) ≡ 1

  module _ (line : IsLine K chains r) (planar : IsPlanar chains) where
    -- a segment more that doesn't meet the line
    kept : (n : ℕ) (xs : List (Item K chains r)) → IsListed n xs → ((u : Segment) → IsNumbered chains n u → ¬ IsSpanned K u r) → IsListed (n + 1) xs
    kept n xs listed none = record {
      sorted = listed.sorted;
      below = λ y h. let lt = listed.below y h in omega (arith, lt);
      once = λ s u lt is spanned. elim (cases_lt s n) [
        | inl earlier ↦ listed.once s u earlier is spanned
        | inr last ↦ absurd (none u (let here : s ≡ n = omega (arith, lt, last) in subst (λ k. IsNumbered chains k u) here is) spanned)
      ];
    }

    -- and one that does
    joined : (n : ℕ) (xs : List (Item K chains r)) → IsListed n xs → (z : Item K chains r) → z.s ≡ n → (new : List (Item K chains r)) × IsListed (n + 1) new
    joined n xs listed z at =
        let differ : (y : Item K chains r) → Has y xs → ¬ (z.s ≡ y.s) = λ y h e. let lt = listed.below y h in omega (arith, lt, at, e) in
        go (inserted z xs listed.sorted (λ y h. one_west K chains r line planar z y (differ y h)))
      where
        go : (new : List (Item K chains r)) × IsInserted z xs new → (new : List (Item K chains r)) × IsListed (n + 1) new
        go (new, more) = (
          new,
          record {
            sorted = more.sorted;
            below = λ y h. ⊎_elim (λ e. let same : y.s ≡ z.s = ap (λ (w : Item K chains r). w.s) e in omega (arith, same, at)) (λ k. let lt = listed.below y k in omega (arith, lt)) (more.either y h);
            once = λ s u lt is spanned. elim (cases_lt s n) [
              | inl earlier ↦
                  let ne : ¬ (s ≡ z.s) = λ e. omega (arith, e, at, earlier) in
                  more.times_are s ∙ times-other s z.s (numbers xs) ne ∙ listed.once s u earlier is spanned
              | inr last ↦
                  let here : s ≡ z.s = omega (arith, lt, last, at) in
                  let none : times s (numbers xs) ≡ 0 = no_times s xs (λ y h e. let under = listed.below y h in omega (arith, under, last, e)) in
                  let one = times-same s z.s (numbers xs) here in
                  let all = more.times_are s in
                  omega (arith, none, one, all)
            ];
          },
        )

    spanned_or : (u : Segment) → IsSpanned K u r ⊎ ¬ IsSpanned K u r
    spanned_or u =
        by_lt_z (r.d *ℤ height K (low_end K u)) (height_of K r)
        (λ from. by_lt_z (height_of K r) (r.d *ℤ height K (high_end K u)) (λ to. inl (record { from = from; to = to }))
        (λ ge. inr (λ s. let to = s.to in omega (arith, ints, to, ge))))
        (λ ge. inr (λ s. let from = s.from in omega (arith, ints, from, ge)))

    one_more : (n : ℕ) (xs : List (Item K chains r)) → n < segments_before chains (length chains) → IsListed n xs → (new : List (Item K chains r)) × IsListed (n + 1) new
    one_more n xs lt listed = by_points (point_or a b)
      where
        at : IsPlaced chains n
        at = placed chains n lt

        a : Point
        a = get_or at.number.chain.points at.k no_point

        b : Point
        b = get_or at.number.chain.points (at.k + 1) no_point

        from : slice_get at.number.chain.points at.k ≡ Some a
        from = let place = at.number.place in slice_get-get_or at.number.chain.points at.k no_point (omega (arith, place))

        to : slice_get at.number.chain.points (at.k + 1) ≡ Some b
        to = slice_get-get_or at.number.chain.points (at.k + 1) no_point at.number.place

        by_span : (u : Segment) → slice_get at.number.chain.points at.k ≡ Some u.a → slice_get at.number.chain.points (at.k + 1) ≡ Some u.b → IsSpanned K u r ⊎ ¬ IsSpanned K u r → (new : List (Item K chains r)) × IsListed (n + 1) new
        by_span u first last =
            let is : IsNumbered chains n u = record { c = at.c; k = at.k; number = at.number; joins = record { chain = at.number.chain; is = at.number.is; from = first; to = last } } in
            ⊎_elim
            (λ spanned. joined n xs listed
            (record {
              s = n;
              c = at.c;
              k = at.k;
              chain = at.number.chain;
              segment = u;
              is = at.number.is;
              inside = at.number.place;
              number = at.number.number;
              from = first;
              to = last;
              spanned = spanned;
              at = met K u r (ends K chains r line n u is) spanned;
            }) refl)
            (λ no. (xs, kept n xs listed (λ w is' spanned. no (spanned_same K w u r (one_segment chains n w u is' is) spanned))))

        by_points : (a ≡ b) ⊎ ¬ (a ≡ b) → (new : List (Item K chains r)) × IsListed (n + 1) new
        by_points (inl e) = (
          xs,
          kept n xs listed (λ u is spanned.
              let there : AreEndsAt at.number.chain.points at.k u = ends_at chains n at.c at.k u at.number is in
              let one : a ≡ u.a = one_found a u.a (slice_get at.number.chain.points at.k) from there.from in
              let other : b ≡ u.b = one_found b u.b (slice_get at.number.chain.points (at.k + 1)) to there.to in
              u.different (sym one ∙ e ∙ other)),
        )
        by_points (inr ne) = by_span (record { a = a; b = b; different = ne }) from to (spanned_or (record { a = a; b = b; different = ne }))

    up_to : (n : ℕ) → n ≤ segments_before chains (length chains) → (xs : List (Item K chains r)) × IsListed n xs
    up_to zero le = ([], record { sorted = tt; below = λ y h. absurd h; once = λ s u lt is spanned. absurd (let no : s < 0 = lt in omega (arith, no)) })
    up_to (suc n) le =
        let rest : (xs : List (Item K chains r)) × IsListed n xs = up_to n (omega (arith, le)) in
        let more : (xs : List (Item K chains r)) × IsListed (n + 1) xs = one_more n rest.0 (omega (arith, le)) rest.1 in
        let next : n + 1 ≡ suc n = omega arith in
        (more.0, subst (λ m. IsListed m more.0) next more.1)

    -- the list of all of them
    pub all : (xs : List (Item K chains r)) × IsListed (segments_before chains (length chains)) xs
    all = up_to (segments_before chains (length chains)) (omega arith)
