use Rattle.std.proofs.Common.{◌≡◌, ◌≢◌, ℕ, ◌+◌, ◌-◌, ◌<◌, ◌≤◌, eqb, ◌⊎◌, inl, inr, List, length, get_or, refl, arith}
use Rattle.std.proofs.lemmas.Bool.{cases_lt, eq-eqb, ne_eqb}
use Rattle.std.proofs.lemmas.List.{get_or_default}
use Rattle.tl_map_rules.specs.declared.entry.ChainEntry.{ChainEntry}
use Rattle.tl_map_rules.specs.declared.entry.ShapeEntry.{ShapeEntry}
use Rattle.tl_map.specs.Keeping.Entries.{chains_with, AreEntriesRising, has_tlid, shapes_with, AreInOrder}
use Rattle.tl_map_rules.proofs.CountLemmas.{none_counted, one_counted}

-- the chains passed so far and those passed now are all below the i-th shape
pub all_below : (chains : List ChainEntry) (shapes : List ShapeEntry) (i start b : ℕ) (d : ShapeEntry) → i < length shapes → AreInOrder shapes → ((k : ℕ) (e : ChainEntry) (x : ShapeEntry) → k < start → (0 < i) × ((get_or chains k e).tlid < (get_or shapes (i - 1) x).tlid)) → ((k : ℕ) (e : ChainEntry) → start ≤ k → k < b → (get_or chains k e).tlid < (get_or shapes i d).tlid) → (k : ℕ) (e : ChainEntry) → k < b → (get_or chains k e).tlid < (get_or shapes i d).tlid
all_below chains shapes i start b d h order passed below k e lt =
    elim (cases_lt k start) [
      | inl earlier ↦
          let before = passed k e d earlier in
          let last = order (i - 1) i d (omega (arith, before.0)) h in
          omega (arith, before.1, last.by_tlid)
      | inr now ↦ below k e now lt
    ]

-- no chain has the TLID, where the first that is not below it has another
pub no_chain : (chains : List ChainEntry) (t b : ℕ) → AreEntriesRising chains → ((k : ℕ) (e : ChainEntry) → k < b → (get_or chains k e).tlid < t) → ((e : ChainEntry) → b < length chains → t < (get_or chains b e).tlid) → chains_with t chains ≡ 0
no_chain chains t b rising below above =
    none_counted (λ (c : ChainEntry). eqb c.tlid t) chains (λ k e h. ne_eqb _ _ (apart k e h))
  where
    apart : (k : ℕ) (e : ChainEntry) → k < length chains → (get_or chains k e).tlid ≢ t
    apart k e h same =
        elim (cases_lt k b) [
          | inl earlier ↦ omega (arith, below k e earlier)
          | inr later ↦ elim (cases_lt b k) [
            | inl after ↦ omega (arith, above e (omega arith), rising b k e after h)
            | inr at ↦ let here : k ≡ b = omega arith in omega (arith, rw here at same, above e (omega arith))
          ]
        ]

-- the i-th shape has a TLID that no chain has
pub stray_found : (chains : List ChainEntry) (shapes : List ShapeEntry) (i b : ℕ) (c : ChainEntry) (d : ShapeEntry) → i < length shapes → AreEntriesRising chains → ((k : ℕ) (e : ChainEntry) → k < b → (get_or chains k e).tlid < (get_or shapes i d).tlid) → ((e : ChainEntry) → b < length chains → (get_or shapes i d).tlid ≤ (get_or chains b e).tlid) → (b ≡ length chains) ⊎ ((get_or chains b c).tlid ≢ (get_or shapes i d).tlid) → (1 ≤ shapes_with (get_or shapes i d).tlid shapes) × (chains_with (get_or shapes i d).tlid chains ≡ 0)
stray_found chains shapes i b c d h rising below stops other = (
  omega (arith, one_counted (has_tlid (get_or shapes i d).tlid) shapes i d h (eq-eqb _ _ refl)),
  no_chain chains (get_or shapes i d).tlid b rising below (λ e lt. elim other [
    | inl past ↦ absurd (omega arith)
    | inr differs ↦ let same = get_or_default chains b c e lt in omega (arith, stops e lt, rw same at differs)
  ]),
)

-- the i-th shape has the TLID of a chain
pub chain_found : (chains : List ChainEntry) (t b : ℕ) (c : ChainEntry) → b < length chains → (get_or chains b c).tlid ≡ t → 1 ≤ chains_with t chains
chain_found chains t b c h same = omega (arith, one_counted (λ (x : ChainEntry). eqb x.tlid t) chains b c h (eq-eqb _ _ same))

-- the chains below the i-th shape are below the last of the first i + 1
pub passed_more : (chains : List ChainEntry) (shapes : List ShapeEntry) (i b : ℕ) (d : ShapeEntry) → i < length shapes → ((k : ℕ) (e : ChainEntry) → k < b → (get_or chains k e).tlid < (get_or shapes i d).tlid) → (k : ℕ) (e : ChainEntry) (x : ShapeEntry) → k < b → (0 < i + 1) × ((get_or chains k e).tlid < (get_or shapes (i + 1 - 1) x).tlid)
passed_more chains shapes i b d h below k e x lt =
    let place : i + 1 - 1 ≡ i = omega arith in
    (omega arith, rw (place, get_or_default shapes i x d h) (below k e lt))

-- the first i + 1 shapes have the TLIDs of chains
pub known_more : (chains : List ChainEntry) (shapes : List ShapeEntry) (i : ℕ) (d : ShapeEntry) → i < length shapes → ((k : ℕ) (e : ShapeEntry) → k < i → 1 ≤ chains_with (get_or shapes k e).tlid chains) → 1 ≤ chains_with (get_or shapes i d).tlid chains → (k : ℕ) (e : ShapeEntry) → k < i + 1 → 1 ≤ chains_with (get_or shapes k e).tlid chains
known_more chains shapes i d h known here k e lt =
    elim (cases_lt k i) [
      | inl earlier ↦ known k e earlier
      | inr last ↦ let at : k ≡ i = omega arith in rw (at, get_or_default shapes i e d h) here
    ]
