-- The records of all chains of a border, told by TLID.
use Rattle.std.proofs.Common.{◌≡◌, ◌≢◌, ℕ, zero, suc, ◌+◌, ◌-◌, ◌*◌, ◌<◌, ◌≤◌, ◌==◌, Bool, true, false, cond, inl, inr, ◌⊎◌, List, [], ◌∷◌, ◌++◌, length, get_or, Option, None, Contains, count_by, refl, sym, ap, subst, ◌∙◌, arith}
use Rattle.std.specs.List.{flat_map}
use Rattle.std.specs.Prelude.{⊤}
use Rattle.std.proofs.lemmas.Bool.{eq-eqb, eqb-true, cases_Bool, cases_lt}
use Rattle.std.proofs.lemmas.List.{get_or_default}
use Rattle.std.proofs.lemmas.List.Sums.{sum_by-cons}
use Rattle.std.proofs.lemmas.List.Concat.{flat_map-append}
use Rattle.std.proofs.lemmas.List.Elements.{Contains-append_left, Contains-append_right}
use Rattle.tl_geom.specs.declared.point.Point.{Point}
use Rattle.tl_record_key.specs.declared.key.PolyKey.{PolyKey}
use Rattle.tl_record.specs.declared.record.Record.{Record}
use Rattle.tl_record.specs.declared.record.Record.TheVariants.{Chain, Shape, Sides, PolyPoint, Landmark, AreaLink}
use Rattle.tl_map_county.specs.declared.polygons.Polygon.{Polygon}
use Rattle.tl_map_county.specs.TheMap.{MapChain}
use Rattle.tl_map_rules.specs.declared.entry.SidesEntry.{SidesEntry}
use Rattle.tl_map_rules.specs.ChainsOf.{is_chain, is_shape, is_shape_at, pairs_up_to, pairs_of}
use Rattle.tl_map_rules.specs.MapOf.{sides_in}
use Rattle.tl_map_rules.proofs.CountLemmas.{one_counted}
use Rattle.tl_map_rules.proofs.PairLemmas.{pairs_at_is}
use Rattle.tigertopo_border.specs.Border.{border_key, side_key, start_of, end_of, inner, pairs_from, shape_count, polygon_records}
use Rattle.tigertopo_border.proofs.PairLemmas.{pairs_both}
use Rattle.tigertopo_border.proofs.BlockLemmas.{block, is_sides, count_cons, count_both, own_chain, own_sides, own_shapes, own_numbered, has_chain, has_sides, has_shape, other_chain, other_sides, other_shapes, other_numbered}

-- ---- chains by rising TLID

-- each has a TLID above t
abbrev pub AreLater : ℕ → List MapChain → Type 0
AreLater t [] = ⊤
AreLater t (c ∷ cs) = (t < c.tlid) × AreLater t cs

abbrev pub Rise : List MapChain → Type 0
Rise [] = ⊤
Rise (c ∷ cs) = AreLater c.tlid cs × Rise cs

-- none has TLID t
abbrev pub NoneHas : ℕ → List MapChain → Type 0
NoneHas t [] = ⊤
NoneHas t (c ∷ cs) = (c.tlid ≢ t) × NoneHas t cs

none_later : (t : ℕ) (cs : List MapChain) → AreLater t cs → NoneHas t cs
none_later t [] later = tt
none_later t (c ∷ cs) later = let lt = later.0 in ((λ same. omega (arith, lt, same)), none_later t cs later.1)

-- one alone has it
pub record IsFound (t : ℕ) (cs : List MapChain) : Type 0 where
  pub chain : MapChain
  pub before : List MapChain
  pub behind : List MapChain
  pub is : cs ≡ before ++ (chain ∷ behind)
  pub tlid : chain.tlid ≡ t
  pub none_before : NoneHas t before
  pub none_behind : NoneHas t behind

later_found : (t u : ℕ) (cs : List MapChain) → AreLater u cs → IsFound t cs → u < t
later_found t u cs later found = go found.before cs later found.is
  where
    go : (before cs : List MapChain) → AreLater u cs → cs ≡ before ++ (found.chain ∷ found.behind) → u < t
    go [] [] later is = absurd (cc is)
    go [] (c ∷ cs) later is =
        let same : c ≡ found.chain = cc is in
        let lt = later.0 in
        let its : c.tlid ≡ t = ap (λ (x : MapChain). x.tlid) same ∙ found.tlid in
        omega (arith, lt, its)
    go (b ∷ before) [] later is = absurd (cc is)
    go (b ∷ before) (c ∷ cs) later is = let rest : cs ≡ before ++ (found.chain ∷ found.behind) = cc is in go before cs later.1 rest

pub find : (t : ℕ) (cs : List MapChain) → Rise cs → NoneHas t cs ⊎ IsFound t cs
find t [] rise = inl tt
find t (c ∷ cs) rise = elim (cases_Bool (c.tlid == t)) [
  | inl is ↦
      let same : c.tlid ≡ t = eqb-true c.tlid t is in
      inr (record { chain = c; before = []; behind = cs; is = refl; tlid = same; none_before = tt; none_behind = subst (λ u. NoneHas u cs) same (none_later c.tlid cs rise.0) })
  | inr is ↦
      let differs : c.tlid ≢ t = λ same. cc (sym (eq-eqb c.tlid t same) ∙ is) in
      elim (find t cs rise.1) [
        | inl none ↦ inl (differs, none)
        | inr found ↦ inr (record {
          chain = found.chain;
          before = c ∷ found.before;
          behind = found.behind;
          is = ap (λ rest. c ∷ rest) found.is;
          tlid = found.tlid;
          none_before = (differs, found.none_before);
          none_behind = found.none_behind;
        })
      ]
]

-- ---- what counts

module _ (name : List ℕ) (p : Record → Bool) (t : ℕ) (misses : (c : MapChain) → c.tlid ≢ t → count_by p (block name c) ≡ 0) where
  pub count_none : (cs : List MapChain) → NoneHas t cs → count_by p (flat_map (block name) cs) ≡ 0
  count_none [] none = refl
  count_none (c ∷ cs) none = omega (arith, count_both p (block name c) (flat_map (block name) cs), misses c none.0, count_none cs none.1)

  pub count_found : (cs : List MapChain) (found : IsFound t cs) → count_by p (flat_map (block name) cs) ≡ count_by p (block name found.chain)
  count_found cs found =
      let split : flat_map (block name) cs ≡ flat_map (block name) found.before ++ (block name found.chain ++ flat_map (block name) found.behind) =
      ap (flat_map (block name)) found.is ∙ flat_map-append (block name) found.before (found.chain ∷ found.behind) in
      ap (count_by p) split
      ∙ omega (
        arith,
        count_both p (flat_map (block name) found.before) (block name found.chain ++ flat_map (block name) found.behind),
        count_both p (block name found.chain) (flat_map (block name) found.behind),
        count_none found.before found.none_before,
        count_none found.behind found.none_behind,
      )

pub contained : (name : List ℕ) (t : ℕ) (cs : List MapChain) (found : IsFound t cs) (r : Record) → Contains (block name found.chain) r → Contains (flat_map (block name) cs) r
contained name t cs found r has =
    let split : flat_map (block name) cs ≡ flat_map (block name) found.before ++ (block name found.chain ++ flat_map (block name) found.behind) =
    ap (flat_map (block name)) found.is ∙ flat_map-append (block name) found.before (found.chain ∷ found.behind) in
    subst (λ rs. Contains rs r) (sym split)
    (Contains-append_right (flat_map (block name) found.before) (block name found.chain ++ flat_map (block name) found.behind) r
    (Contains-append_left (block name found.chain) (flat_map (block name) found.behind) r has))

-- ---- all records

-- the records of a border, where these are its chains
abbrev pub all_of : List ℕ → List MapChain → List Polygon → List Record
all_of name cs polygons = flat_map (block name) cs ++ polygon_records name polygons

-- a test that no polygon's record passes
none_of_polygon : (p : Record → Bool) (name : List ℕ) (polygons : List Polygon) → ((k : PolyKey) (point : Point) → p (PolyPoint k point) ≡ false) → count_by p (polygon_records name polygons) ≡ 0
none_of_polygon p name [] not = refl
none_of_polygon p name (polygon ∷ rest) not =
    let one : cond {A = ℕ} (p (PolyPoint (border_key name) polygon.point)) 1 0 ≡ 0 = rw (not (border_key name) polygon.point) refl in
    let none : count_by p [] ≡ 0 = refl in
    omega (arith, one, none, count_cons p (PolyPoint (border_key name) polygon.point) [])

module _ (name : List ℕ) (cs : List MapChain) (polygons : List Polygon) where
  rs : List Record
  rs = all_of name cs polygons

  pub without : (p : Record → Bool) → ((k : PolyKey) (point : Point) → p (PolyPoint k point) ≡ false) → count_by p (all_of name cs polygons) ≡ count_by p (flat_map (block name) cs)
  without p not = omega (arith, count_both p (flat_map (block name) cs) (polygon_records name polygons), none_of_polygon p name polygons not)

  module _ (t : ℕ) where
    pub absent_chain : NoneHas t cs → count_by (is_chain t) (all_of name cs polygons) ≡ 0
    absent_chain none = without (is_chain t) (λ k point. refl) ∙ count_none name (is_chain t) t (λ c not. other_chain name c t not) cs none

    pub absent_shapes : NoneHas t cs → count_by (is_shape t) (all_of name cs polygons) ≡ 0
    absent_shapes none = without (is_shape t) (λ k point. refl) ∙ count_none name (is_shape t) t (λ c not. other_shapes name c t not) cs none

    pub absent_sides : NoneHas t cs → count_by (is_sides t) (all_of name cs polygons) ≡ 0
    absent_sides none = without (is_sides t) (λ k point. refl) ∙ count_none name (is_sides t) t (λ c not. other_sides name c t not) cs none

    module _ (found : IsFound t cs) where
      pub present_chain : count_by (is_chain t) (all_of name cs polygons) ≡ 1
      present_chain =
          without (is_chain t) (λ k point. refl) ∙ count_found name (is_chain t) t (λ c not. other_chain name c t not) cs found
          ∙ subst (λ u. count_by (is_chain u) (block name found.chain) ≡ 1) found.tlid (own_chain name found.chain)

      pub present_sides : count_by (is_sides t) (all_of name cs polygons) ≡ 1
      present_sides =
          without (is_sides t) (λ k point. refl) ∙ count_found name (is_sides t) t (λ c not. other_sides name c t not) cs found
          ∙ subst (λ u. count_by (is_sides u) (block name found.chain) ≡ 1) found.tlid (own_sides name found.chain)

      pub present_shapes : count_by (is_shape t) (all_of name cs polygons) ≡ shape_count found.chain.points
      present_shapes =
          without (is_shape t) (λ k point. refl) ∙ count_found name (is_shape t) t (λ c not. other_shapes name c t not) cs found
          ∙ subst (λ u. count_by (is_shape u) (block name found.chain) ≡ shape_count found.chain.points) found.tlid (own_shapes name found.chain)

      pub present_numbered : (n : ℕ) → 1 ≤ n → n ≤ shape_count found.chain.points → count_by (is_shape_at t n) (all_of name cs polygons) ≡ 1
      present_numbered n low high =
          without (is_shape_at t n) (λ k point. refl) ∙ count_found name (is_shape_at t n) t (λ c not. other_numbered name c t not n) cs found
          ∙ subst (λ u. count_by (is_shape_at u n) (block name found.chain) ≡ 1) found.tlid (own_numbered name found.chain n low high)

      there : (r : Record) → Contains (block name found.chain) r → Contains (all_of name cs polygons) r
      there r has = Contains-append_left (flat_map (block name) cs) (polygon_records name polygons) r (contained name t cs found r has)

      pub chain_contained : Contains (all_of name cs polygons) (Chain t (start_of found.chain.points) (end_of found.chain.points))
      chain_contained =
          subst (λ u. Contains (all_of name cs polygons) (Chain u (start_of found.chain.points) (end_of found.chain.points))) found.tlid (there _ (has_chain name found.chain))

      pub sides_contained : Contains (all_of name cs polygons) (Sides t None None (side_key name found.chain.left) (side_key name found.chain.right))
      sides_contained =
          subst (λ u. Contains (all_of name cs polygons) (Sides u None None (side_key name found.chain.left) (side_key name found.chain.right))) found.tlid (there _ (has_sides name found.chain))

      shape_contained : (n : ℕ) → 1 ≤ n → n ≤ shape_count found.chain.points → Contains (all_of name cs polygons) (Shape t n (pairs_from (inner found.chain.points) (10 * (n - 1)) 10))
      shape_contained n low high =
          subst (λ u. Contains (all_of name cs polygons) (Shape u n (pairs_from (inner found.chain.points) (10 * (n - 1)) 10))) found.tlid (there _ (has_shape name found.chain n low high))

      -- its pairs by rising RTSQ
      up_to : (n : ℕ) → n ≤ shape_count found.chain.points → pairs_up_to (all_of name cs polygons) t n ≡ pairs_from (inner found.chain.points) 0 (10 * n)
      up_to zero le = refl
      up_to (suc n) le =
          let points = inner found.chain.points in
          let all : List Record = all_of name cs polygons in
          let here = pairs_at_is all t (suc n) (pairs_from points (10 * (suc n - 1)) 10) (shape_contained (suc n) (omega arith) le) (present_numbered (suc n) (omega arith) le) in
          let place : 10 * (suc n - 1) ≡ 0 + 10 * n = omega arith in
          let more : 10 * n + 10 ≡ 10 * suc n = omega arith in
          rw (here, up_to n (omega (arith, le)), place) (pairs_both points 0 (10 * n) 10 ∙ ap (pairs_from points 0) more)

      pub pairs_are : pairs_of (all_of name cs polygons) t ≡ pairs_from (inner found.chain.points) 0 (10 * shape_count found.chain.points)
      pairs_are = ap (pairs_up_to (all_of name cs polygons) t) present_shapes ∙ up_to (shape_count found.chain.points) (omega arith)

-- ---- what is contained

-- one that passes is counted
pub counted : (p : Record → Bool) (rs : List Record) (r : Record) → Contains rs r → p r ≡ true → 1 ≤ count_by p rs
counted p rs r has passes =
    let here : p (get_or rs has.0 r) ≡ true = ap p has.2 ∙ passes in
    omega (arith, one_counted p rs has.0 r has.1 here)

two_at : (p : Record → Bool) (xs : List Record) (i j : ℕ) (d : Record) → i < j → j < length xs → p (get_or xs i d) ≡ true → p (get_or xs j d) ≡ true → 2 ≤ count_by p xs
two_at p [] i j d lt within a b = absurd (omega arith)
two_at p (x ∷ xs) i zero d lt within a b = absurd (omega arith)
two_at p (x ∷ xs) zero (suc j) d lt within a b =
    let here : cond {A = ℕ} (p x) 1 0 ≡ 1 = rw a refl in
    omega (arith, one_counted p xs j d (omega arith) b, count_cons p x xs, here)
two_at p (x ∷ xs) (suc i) (suc j) d lt within a b = omega (arith, two_at p xs i j d (omega arith) (omega arith) a b, count_cons p x xs)

-- one alone passes
pub one_alone : (p : Record → Bool) (xs : List Record) (x y : Record) → count_by p xs ≡ 1 → p x ≡ true → p y ≡ true → Contains xs x → Contains xs y → x ≡ y
one_alone p xs x y once px py a b =
    let at_b : get_or xs b.0 x ≡ y = get_or_default xs b.0 x y b.1 ∙ b.2 in
    elim (cases_lt a.0 b.0) [
      | inl before ↦ absurd (let two = two_at p xs a.0 b.0 x before b.1 (rw a.2 px) (rw at_b py) in omega (arith, two, once))
      | inr not_before ↦ elim (cases_lt b.0 a.0) [
        | inl after ↦ absurd (let two = two_at p xs b.0 a.0 x after a.1 (rw at_b py) (rw a.2 px) in omega (arith, two, once))
        | inr not_after ↦ let same : a.0 ≡ b.0 = omega arith in sym a.2 ∙ rw same at_b
      ]
    ]

-- a type I record says what its entry says
pub sides_entry : (rs : List Record) (t : ℕ) (s e : Option ℕ) (l r : Option PolyKey) → Contains rs (Sides t s e l r) → Contains (sides_in rs) (record { tlid = t; start_cell = s; end_cell = e; left = l; right = r })
sides_entry rs t s e l r has = go rs has.0 has.1 has.2
  where
    wanted : Record
    wanted = Sides t s e l r

    entry : SidesEntry
    entry = record { tlid = t; start_cell = s; end_cell = e; left = l; right = r }

    later : (x : SidesEntry) (xs : List SidesEntry) → Contains xs entry → Contains (x ∷ xs) entry
    later x xs has = let lt = has.1 in (suc has.0, omega (arith, lt), has.2)

    go : (rs : List Record) (k : ℕ) → k < length rs → get_or rs k wanted ≡ wanted → Contains (sides_in rs) entry
    go [] k lt at = absurd (omega (arith, lt))
    go (x ∷ rs) zero lt at = rw at (0, omega arith, refl)
    go (Chain u from to ∷ rs) (suc k) lt at = go rs k (omega (arith, lt)) at
    go (Shape u n pairs ∷ rs) (suc k) lt at = go rs k (omega (arith, lt)) at
    go (Sides u s' e' l' r' ∷ rs) (suc k) lt at = later _ (sides_in rs) (go rs k (omega (arith, lt)) at)
    go (PolyPoint key point ∷ rs) (suc k) lt at = go rs k (omega (arith, lt)) at
    go (Landmark land point ∷ rs) (suc k) lt at = go rs k (omega (arith, lt)) at
    go (AreaLink key land ∷ rs) (suc k) lt at = go rs k (omega (arith, lt)) at

-- as many type I records have a TLID as entries
pub sides_counted : (rs : List Record) (t : ℕ) → count_by (λ (s : SidesEntry). s.tlid == t) (sides_in rs) ≡ count_by (is_sides t) rs
sides_counted [] t = refl
sides_counted (Chain u from to ∷ rs) t = sides_counted rs t ∙ omega (arith, count_cons (is_sides t) (Chain u from to) rs)
sides_counted (Shape u n pairs ∷ rs) t = sides_counted rs t ∙ omega (arith, count_cons (is_sides t) (Shape u n pairs) rs)
sides_counted (Sides u s e l r ∷ rs) t =
    let entry : SidesEntry = record { tlid = u; start_cell = s; end_cell = e; left = l; right = r } in
    let more : count_by (λ (x : SidesEntry). x.tlid == t) (entry ∷ sides_in rs) ≡ cond (u == t) 1 0 + count_by (λ (x : SidesEntry). x.tlid == t) (sides_in rs) =
    sum_by-cons (λ (x : SidesEntry). cond (x.tlid == t) 1 0) entry (sides_in rs) in
    omega (arith, more, sides_counted rs t, count_cons (is_sides t) (Sides u s e l r) rs)
sides_counted (PolyPoint key point ∷ rs) t = sides_counted rs t ∙ omega (arith, count_cons (is_sides t) (PolyPoint key point) rs)
sides_counted (Landmark land point ∷ rs) t = sides_counted rs t ∙ omega (arith, count_cons (is_sides t) (Landmark land point) rs)
sides_counted (AreaLink key land ∷ rs) t = sides_counted rs t ∙ omega (arith, count_cons (is_sides t) (AreaLink key land) rs)
