-- What a side of joined records names is a polygon of the part whose record names it.
use Rattle.std.proofs.Common.{◌≡◌, ℕ, ◌⊎◌, eqb, true, false, List, [], ◌∷◌, Option, Some, refl, sym, ap, ◌∙◌, inl, inr}
use Rattle.std.specs.Prelude.{slice_get}
use Rattle.std.proofs.lemmas.Bool.{true≢false, cases_Bool, eq-eqb, eqb-true, false_from_ne_true}
use Rattle.tl_record_key.specs.declared.key.PolyKey.{PolyKey}
use Rattle.tl_record.specs.declared.record.Record.{Record}
use Rattle.tl_record.specs.declared.record.Record.TheVariants.{Sides}
use Rattle.tl_map_county.specs.declared.sides.Side.TheVariants.{Outside, Polygon as InPolygon}
use Rattle.tl_map_county.specs.TheMap.{TheMap}
use Rattle.tl_map_rules.specs.declared.fault.RecordFault.TheVariants.{SideWithoutPolygon}
use Rattle.tl_map_rules.specs.MapOf.{sides_in, polygons_in, keys, same_key, place_of, side_of}
use Rattle.tl_map_rules.proofs.KeyLemmas.{same_key-refl, same_key-is}
use Rattle.tigertopo_border.specs.Whole.Homes.{own, is_of}
use Rattle.tigertopo_border.specs.Parts.{homes_of, part_at, number_at, HaveNoFaultButMany}
use Rattle.tigertopo_border.proofs.Joining.InLemmas.{In, contained, from_contained}
use Rattle.tigertopo_border.proofs.Joining.TellLemmas.{entry, in_entries}
use Rattle.tigertopo_border.proofs.Joining.HomeLemmas.{polygons_of, AreDistinct, IsAtHome, at_home}

in_or_not : (ks : List PolyKey) (k : PolyKey) → In k ks ⊎ (In k ks → ⊥)
in_or_not [] k = inr (λ has. has)
in_or_not (l ∷ ks) k = elim (cases_Bool (same_key l k)) [
  | inl same ↦ inl (inl (same_key-is l k same))
  | inr other ↦ elim (in_or_not ks k) [
    | inl more ↦ inl (inr more)
    | inr none ↦ inr (neither other none)
  ]
]
  where
    neither : same_key l k ≡ false → (In k ks → ⊥) → In k (l ∷ ks) → ⊥
    neither other none (inl same) = true≢false (sym (same_key-refl k) ∙ ap (λ m. same_key m k) (sym same) ∙ other)
    neither other none (inr more) = none more

-- what a type I record names has a type P record
pub names_known : (rs : List Record) → HaveNoFaultButMany rs → (t : ℕ) (s e : Option ℕ) (l r : Option PolyKey) (name : PolyKey) → In (Sides t s e l r) rs → (l ≡ Some name) ⊎ (r ≡ Some name)
    → In name (keys (polygons_in rs))
names_known rs none t s e l r name has named = elim (in_or_not (keys (polygons_in rs)) name) [
  | inl known ↦ known
  | inr unknown ↦
      let there = contained (sides_in rs) (entry t s e l r) (in_entries rs t s e l r has) in
      absurd (none (SideWithoutPolygon t name) (λ what same. cc) ((there.0, entry t s e l r, there.1, there.2, (refl, named)), λ known. unknown (from_contained (keys (polygons_in rs)) name known)))
]

-- ---- sides by the names of a part

module _ (parts : List TheMap) (ks : List PolyKey) (ks_are : ks ≡ keys (polygons_of parts)) (distinct : AreDistinct (keys (polygons_of parts))) where
  home : (k : ℕ) (part : TheMap) (name : PolyKey) → slice_get parts k ≡ Some part → In name (keys part.polygons) → IsAtHome parts k part name
  home k part name is has = at_home parts k part name distinct is has

  pub part_is : (k : ℕ) (part : TheMap) (name : PolyKey) → slice_get parts k ≡ Some part → In name (keys part.polygons) → part_at parts (place_of ks name) ≡ k
  part_is k part name is has = ap (λ (l : List PolyKey). part_at parts (place_of l name)) ks_are ∙ (home k part name is has).part_is

  number_is : (k : ℕ) (part : TheMap) (name : PolyKey) → slice_get parts k ≡ Some part → In name (keys part.polygons) → number_at parts (place_of ks name) ≡ place_of (keys part.polygons) name
  number_is k part name is has = ap (λ (l : List PolyKey). number_at parts (place_of l name)) ks_are ∙ (home k part name is has).number_is

  pub own_side : (k : ℕ) (part : TheMap) (name : PolyKey) → slice_get parts k ≡ Some part → In name (keys part.polygons)
      → own (homes_of parts) k (side_of ks (Some name)) ≡ side_of (keys part.polygons) (Some name)
  own_side k part name is has =
      rw (eq-eqb (part_at parts (place_of ks name)) k (part_is k part name is has)) (ap InPolygon (number_is k part name is has))

  pub is_own : (k : ℕ) (part : TheMap) (name : PolyKey) → slice_get parts k ≡ Some part → In name (keys part.polygons) → is_of (homes_of parts) k (side_of ks (Some name)) ≡ true
  is_own k part name is has = eq-eqb (part_at parts (place_of ks name)) k (part_is k part name is has)

  -- what another part names
  pub other_side : (k l : ℕ) (part : TheMap) (name : PolyKey) → (l ≡ k → ⊥) → slice_get parts l ≡ Some part → In name (keys part.polygons) → own (homes_of parts) k (side_of ks (Some name)) ≡ Outside
  other_side k l part name apart is has =
      let other : eqb (part_at parts (place_of ks name)) k ≡ false =
      false_from_ne_true (eqb (part_at parts (place_of ks name)) k) (λ same. apart (sym (part_is l part name is has) ∙ eqb-true (part_at parts (place_of ks name)) k same)) in
      rw other refl
