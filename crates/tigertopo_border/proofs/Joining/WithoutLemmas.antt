-- What is told of chains, sides and polygons doesn't hang on landmarks.
use Rattle.std.proofs.Common.{◌≡◌, List, [], ◌∷◌, ◌++◌, refl, ap, ◌∙◌, inl, inr}
use Rattle.std.specs.List.{cons_option}
use Rattle.std.proofs.lemmas.Bool.{cases_Bool}
use Rattle.std.proofs.lemmas.List.Elements.{filter_map-append}
use Rattle.tl_record.specs.declared.record.Record.{Record}
use Rattle.tl_record.specs.declared.record.Record.TheVariants.{Chain, Shape, Sides, PolyPoint, Landmark, AreaLink}
use Rattle.tl_map.specs.declared.joined.place.Place.{Place}
use Rattle.tl_map.specs.Joined.Keeping.Places.{is_at}
use Rattle.tl_map_county.specs.declared.polygons.Polygon.{Polygon}
use Rattle.tl_map_rules.specs.MapOf.{polygon_at, polygons_in}
use Rattle.tigertopo_border.specs.Parts.{without_landmarks, all_records}
use Rattle.tigertopo_border.proofs.Joining.KeyedLemmas.{told}

told_more : (q : Place) (r : Record) (xs ys : List Record) → told q xs ≡ told q ys → told q (r ∷ xs) ≡ told q (r ∷ ys)
told_more q r xs ys same = elim (cases_Bool (is_at q r)) [
  | inl at ↦ rw at (ap (λ (zs : List Record). r ∷ zs) same)
  | inr other ↦ rw other same
]

pub told_without : (q : Place) (rs : List Record) → told q (without_landmarks rs) ≡ told q rs
told_without q [] = refl
told_without q (Chain u from to ∷ rs) = told_more q (Chain u from to) (without_landmarks rs) rs (told_without q rs)
told_without q (Shape u n pairs ∷ rs) = told_more q (Shape u n pairs) (without_landmarks rs) rs (told_without q rs)
told_without q (Sides u s e l r ∷ rs) = told_more q (Sides u s e l r) (without_landmarks rs) rs (told_without q rs)
told_without q (PolyPoint k p ∷ rs) = told_more q (PolyPoint k p) (without_landmarks rs) rs (told_without q rs)
told_without q (Landmark n p ∷ rs) = told_without q rs
told_without q (AreaLink k n ∷ rs) = told_without q rs

pub polygons_without : (rs : List Record) → polygons_in (without_landmarks rs) ≡ polygons_in rs
polygons_without [] = refl
polygons_without (Chain u from to ∷ rs) = polygons_without rs
polygons_without (Shape u n pairs ∷ rs) = polygons_without rs
polygons_without (Sides u s e l r ∷ rs) = polygons_without rs
polygons_without (PolyPoint k p ∷ rs) = ap (cons_option (polygon_at (PolyPoint k p))) (polygons_without rs)
polygons_without (Landmark n p ∷ rs) = polygons_without rs
polygons_without (AreaLink k n ∷ rs) = polygons_without rs

pub polygons_both : (rs : List Record) (lists : List (List Record)) → polygons_in (all_records (rs ∷ lists)) ≡ polygons_in rs ++ polygons_in (all_records lists)
polygons_both rs lists =
    filter_map-append polygon_at (without_landmarks rs) (all_records lists) ∙ ap (λ (ps : List Polygon). ps ++ polygons_in (all_records lists)) (polygons_without rs)
