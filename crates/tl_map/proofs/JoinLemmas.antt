use Rattle.std.proofs.Common.{◌≡◌, ◌≢◌, ℕ, ◌+◌, ◌-◌, ◌<◌, ◌≤◌, inl, inr, List, [], ◌∷◌, ◌++◌, length, take, drop, map, get_or, filter, sym, ap, ◌∙◌, arith}
use Rattle.std.proofs.lemmas.Bool.{cases_lt, eq-eqb, ne_eqb}
use Rattle.std.proofs.lemmas.List.{get_or_default, map_more, length-map, get_or-map, take-map}
use Rattle.tl_geom.specs.declared.point.Point.{Point}
use Rattle.tl_map_rules.specs.declared.entry.ChainEntry.{ChainEntry}
use Rattle.tl_map_rules.specs.declared.entry.ShapeEntry.{ShapeEntry}
use Rattle.std.proofs.lemmas.List.Sums.{sum_by-take-le}
use Rattle.tl_map_county.specs.Chains.{CompleteChain, segment_count}
use Rattle.tl_map.specs.Keeping.Entries.{has_tlid, chains_with, AreEntriesRising, AreInOrder, joined}
use Rattle.tl_map.specs.Keeping.Rows.{drawn_by, IsUnjoinable, AreUnjoinable}
use Rattle.tl_map.proofs.StrayLemmas.{no_chain}
use Rattle.tl_map_rules.proofs.PartLemmas.{filter_part}

-- the shapes of a chain stand from s to e
pub run_is : (shapes : List ShapeEntry) (s e t : ℕ) → s ≤ e → e ≤ length shapes → AreInOrder shapes → ((k : ℕ) (d : ShapeEntry) → k < s → (get_or shapes k d).tlid < t) → ((k : ℕ) (d : ShapeEntry) → s ≤ k → k < e → (get_or shapes k d).tlid ≡ t) → ((k : ℕ) (d : ShapeEntry) → e ≤ k → k < length shapes → t < (get_or shapes k d).tlid) → filter (has_tlid t) shapes ≡ take (e - s) (drop s shapes)
run_is shapes s e t le within order before between after =
    filter_part (has_tlid t) shapes s e le within
    (λ k d h. ne_eqb _ _ (λ same. omega (arith, before k d h)))
    (λ k d low high. eq-eqb _ _ (between k d low high))
    (λ k d low high. ne_eqb _ _ (λ same. omega (arith, after k d low high)))

-- the shapes from e on have TLIDs above t
pub above_run : (shapes : List ShapeEntry) (s e t : ℕ) → s ≤ e → AreInOrder shapes → ((k : ℕ) (d : ShapeEntry) → s ≤ k → k < length shapes → t ≤ (get_or shapes k d).tlid) → ((d : ShapeEntry) → e < length shapes → (get_or shapes e d).tlid ≢ t) → (k : ℕ) (d : ShapeEntry) → e ≤ k → k < length shapes → t < (get_or shapes k d).tlid
above_run shapes s e t le order ahead stops k d low high =
    let first : t < (get_or shapes e d).tlid = omega (arith, ahead e d le (omega arith), stops d (omega arith)) in
    elim (cases_lt e k) [
      | inl later ↦ let next = order e k d later high in omega (arith, first, next.by_tlid)
      | inr at ↦ let same : k ≡ e = omega arith in rw same first
    ]

-- the shapes below e have TLIDs below those of the chains that come next
pub behind_more : (chains : List ChainEntry) (shapes : List ShapeEntry) (i s e : ℕ) (c : ChainEntry) → i < length chains → AreEntriesRising chains → ((k m : ℕ) (d : ShapeEntry) (x : ChainEntry) → k < s → i ≤ m → m < length chains → (get_or shapes k d).tlid < (get_or chains m x).tlid) → ((k : ℕ) (d : ShapeEntry) → s ≤ k → k < e → (get_or shapes k d).tlid ≡ (get_or chains i c).tlid) → (k m : ℕ) (d : ShapeEntry) (x : ChainEntry) → k < e → i + 1 ≤ m → m < length chains → (get_or shapes k d).tlid < (get_or chains m x).tlid
behind_more chains shapes i s e c h rising behind run k m d x lt low high =
    elim (cases_lt k s) [
      | inl earlier ↦ behind k m d x earlier (omega arith) high
      | inr now ↦
          let next = rising i m x (omega arith) high in
          let same = get_or_default chains i c x h in
          omega (arith, next, run k d now lt, ap (λ (y : ChainEntry). y.tlid) same)
    ]

-- the shapes from e on have TLIDs no less than that of the next chain
pub ahead_more : (chains : List ChainEntry) (shapes : List ShapeEntry) (i e : ℕ) (c : ChainEntry) → i < length chains → AreEntriesRising chains → ((k : ℕ) (d : ShapeEntry) → k < length shapes → 1 ≤ chains_with (get_or shapes k d).tlid chains) → ((k : ℕ) (d : ShapeEntry) → e ≤ k → k < length shapes → (get_or chains i c).tlid < (get_or shapes k d).tlid) → (k : ℕ) (d : ShapeEntry) (x : ChainEntry) → e ≤ k → k < length shapes → i + 1 < length chains → (get_or chains (i + 1) x).tlid ≤ (get_or shapes k d).tlid
ahead_more chains shapes i e c h rising known above k d x low high next =
    elim (cases_lt (get_or shapes k d).tlid (get_or chains (i + 1) x).tlid) [
      | inl between ↦ absurd (omega (arith, known k d high, no_chain chains (get_or shapes k d).tlid (i + 1) rising below (λ y lt. let same = get_or_default chains (i + 1) x y lt in rw same at between)))
      | inr fine ↦ fine
    ]
  where
    below : (j : ℕ) (y : ChainEntry) → j < i + 1 → (get_or chains j y).tlid < (get_or shapes k d).tlid
    below j y lt =
        let here : (get_or chains i y).tlid < (get_or shapes k d).tlid = rw (get_or_default chains i y c h) (above k d low high) in
        elim (cases_lt j i) [
          | inl earlier ↦ omega (arith, rising j i y earlier h, here)
          | inr at ↦ let same : j ≡ i = omega arith in rw same here
        ]

-- a chain that is added is the joined one
pub drawn_is : (pool : List Point) (shapes : List ShapeEntry) (c : ChainEntry) (run : List ShapeEntry) → filter (has_tlid c.tlid) shapes ≡ run → drawn_by pool c run ≡ joined pool shapes c
drawn_is pool shapes c run same = ap (drawn_by pool c) (sym same)

-- one chain more is joined
pub joined_more : (pool : List Point) (chains : List ChainEntry) (shapes : List ShapeEntry) (i : ℕ) (c : ChainEntry) (before after : List CompleteChain) (drawn : CompleteChain) → i < length chains → after ≡ before ++ drawn ∷ [] → drawn ≡ joined pool shapes (get_or chains i c) → before ≡ map (joined pool shapes) (take i chains) → after ≡ map (joined pool shapes) (take (i + 1) chains)
joined_more pool chains shapes i c before after drawn h added is were =
    added ∙ ap (λ cs. cs ++ drawn ∷ []) were ∙ ap (λ d. map (joined pool shapes) (take i chains) ++ d ∷ []) is
    ∙ sym (map_more (joined pool shapes) chains i c h)

-- the shapes of the first chain are not below it
pub ahead_first : (chains : List ChainEntry) (shapes : List ShapeEntry) → AreEntriesRising chains → ((k : ℕ) (d : ShapeEntry) → k < length shapes → 1 ≤ chains_with (get_or shapes k d).tlid chains) → (k : ℕ) (d : ShapeEntry) (x : ChainEntry) → 0 ≤ k → k < length shapes → 0 < length chains → (get_or chains 0 x).tlid ≤ (get_or shapes k d).tlid
ahead_first chains shapes rising known k d x low high some =
    elim (cases_lt (get_or shapes k d).tlid (get_or chains 0 x).tlid) [
      | inl under ↦ absurd (omega (arith, known k d high, no_chain chains (get_or shapes k d).tlid 0 rising (λ j y lt. absurd (omega arith)) (λ y lt. let same = get_or_default chains 0 x y lt in rw same at under)))
      | inr fine ↦ fine
    ]

-- a chain that can't be added keeps all from being joined
pub unjoinable : (J : ChainEntry → CompleteChain) (chains : List ChainEntry) (i : ℕ) (c : ChainEntry) (before : List CompleteChain) (drawn : CompleteChain) → i < length chains → before ≡ map J (take i chains) → drawn ≡ J (get_or chains i c) → IsUnjoinable before drawn → AreUnjoinable (map J chains)
unjoinable J chains i c before drawn h were is why = elim why [
  | inl one ↦
      let at : get_or (map J chains) i drawn ≡ drawn = get_or-map J chains i c drawn h ∙ sym is in
      inl (i, drawn, (let long = length-map chains J in omega arith), at, one)
  | inr many ↦
      let parts : before ++ drawn ∷ [] ≡ take (i + 1) (map J chains) =
      ap (λ cs. cs ++ drawn ∷ []) were ∙ ap (λ d. map J (take i chains) ++ d ∷ []) is ∙ sym (map_more J chains i c h) ∙ sym (take-map J (i + 1) chains) in
      inr (omega (arith, many, ap segment_count parts, sum_by-take-le (λ d. length d.points - 1) (map J chains) (i + 1)))
]

-- one more chain has several points
pub several_more : (J : ChainEntry → CompleteChain) (chains : List ChainEntry) (i : ℕ) (c : ChainEntry) (drawn : CompleteChain) → i < length chains → drawn ≡ J (get_or chains i c) → length drawn.points ≢ 1 → ((k : ℕ) (d : ChainEntry) → k < i → length (J (get_or chains k d)).points ≢ 1) → (k : ℕ) (d : ChainEntry) → k < i + 1 → length (J (get_or chains k d)).points ≢ 1
several_more J chains i c drawn h is some before k d lt =
    elim (cases_lt k i) [
      | inl earlier ↦ before k d earlier
      | inr last ↦ let at : k ≡ i = omega arith in rw (at, get_or_default chains i d c h, ← is) some
    ]
