use Rattle.std.proofs.Common.{◌≡◌, ℕ, ◌+◌, ◌<◌, All, Contains, inl, inr, Option, Some, None, List, [], ◌∷◌, ◌++◌, length, map, take, get_or, refl, sym, ap, ◌∙◌, arith}
use Rattle.std.proofs.lemmas.Bool.{cases_lt}
use Rattle.tl_map_county.specs.declared.sides.Side.{Side}
use Rattle.tl_map_county.specs.declared.sides.ChainSides.{ChainSides}
use Rattle.std.proofs.lemmas.List.{get_or_default, map_more}
use Rattle.std.proofs.lemmas.List.Elements.{All-map, All-weaker}
use Rattle.tl_record_key.specs.declared.key.PolyKey.{PolyKey}
use Rattle.tl_map_rules.specs.declared.entry.SidesEntry.{SidesEntry}
use Rattle.tl_map_rules.specs.MapOf.{side_of}
use Rattle.tl_map_county.specs.Sides.{IsSideAmong, AreSidesAmong}
use Rattle.tl_map.proofs.OnceLemmas.{place_below}
use Rattle.tl_map.specs.Keeping.Sided.{sided_by, IsSide, IsKeyUnknown, NamesKnown, AreNamesUnknown}

-- a side whose key isn't known is one of a record
pub left_unknown : (ks : List PolyKey) (entries : List SidesEntry) (i : ℕ) (d : SidesEntry) → i < length entries → IsKeyUnknown ks (get_or entries i d).left → AreNamesUnknown ks entries
left_unknown ks entries i d lt why =
    (why.0, (i, get_or entries i d, lt, get_or_default entries i (get_or entries i d) d lt, inl why.1), why.2)

pub right_unknown : (ks : List PolyKey) (entries : List SidesEntry) (i : ℕ) (d : SidesEntry) → i < length entries → IsKeyUnknown ks (get_or entries i d).right → AreNamesUnknown ks entries
right_unknown ks entries i d lt why =
    (why.0, (i, get_or entries i d, lt, get_or_default entries i (get_or entries i d) d lt, inr why.1), why.2)

-- the sides of one record more
pub sides_more : (ks : List PolyKey) (entries : List SidesEntry) (i : ℕ) (d : SidesEntry) (sides new : List ChainSides) (left right : Side) → i < length entries → sides ≡ map (sided_by ks) (take i entries) → IsSide ks (get_or entries i d).left left → IsSide ks (get_or entries i d).right right → new ≡ sides ++ record { left = left; right = right; start_cell = (get_or entries i d).start_cell; end_cell = (get_or entries i d).end_cell } ∷ [] → new ≡ map (sided_by ks) (take (i + 1) entries)
sides_more ks entries i d sides new left right lt before l r added =
    added ∙ ap (λ xs. xs ++ record { left = left; right = right; start_cell = (get_or entries i d).start_cell; end_cell = (get_or entries i d).end_cell } ∷ []) before
    ∙ ap (λ x. map (sided_by ks) (take i entries) ++ x ∷ []) (λ j. record { left = l.is j; right = r.is j; start_cell = (get_or entries i d).start_cell; end_cell = (get_or entries i d).end_cell }) ∙ sym (map_more (sided_by ks) entries i d lt)

-- the keys of one record more are known
pub known_more : (ks : List PolyKey) (entries : List SidesEntry) (i : ℕ) (d : SidesEntry) (left right : Side) → i < length entries → IsSide ks (get_or entries i d).left left → IsSide ks (get_or entries i d).right right → ((j : ℕ) (e : SidesEntry) → j < i → NamesKnown ks (get_or entries j e)) → (j : ℕ) (e : SidesEntry) → j < i + 1 → NamesKnown ks (get_or entries j e)
known_more ks entries i d left right lt l r before j e low = elim (cases_lt j i) [
  | inl earlier ↦ before j e earlier
  | inr last ↦ let at : j ≡ i = omega arith in rw (at, get_or_default entries i e d lt) (λ k names. elim names [ inl a ↦ l.known k a | inr b ↦ r.known k b ])
]

-- the side of a known key is the outside or one of as many polygons as there are keys
side_among : (ks : List PolyKey) (key : Option PolyKey) → ((k : PolyKey) → key ≡ Some k → Contains ks k) → IsSideAmong (length ks) (side_of ks key)
side_among ks None known = tt
side_among ks (Some k) known = place_below ks k (known k refl)

-- and so are the sides of records whose keys are known
pub all_among : (ks : List PolyKey) (entries : List SidesEntry) → All (NamesKnown ks) entries → All (AreSidesAmong (length ks)) (map (sided_by ks) entries)
all_among ks entries known =
    All-map (AreSidesAmong (length ks)) (sided_by ks) entries
    (All-weaker (NamesKnown ks) (λ (e : SidesEntry). AreSidesAmong (length ks) (sided_by ks e)) (λ e named. record {
      left = side_among ks e.left (λ k is. named k (inl is));
      right = side_among ks e.right (λ k is. named k (inr is));
    }) entries known)
