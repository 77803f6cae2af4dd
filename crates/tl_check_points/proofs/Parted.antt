-- Lists that stand one behind the other.
use Rattle.std.proofs.Common.{◌≡◌, ℕ, ◌-◌, ◌≤◌, Option, Some, None, List, [], ◌∷◌, ◌++◌, length, take, drop, set, All, refl, ap, ap₂, ◌∙◌, arith, length-append, length-drop}
use Rattle.std.proofs.lemmas.List.{map-set, take_all, take-append-le, drop-append-le}
use Rattle.std.proofs.lemmas.List.Elements.{All-head, All-tail, All-map, All-weaker}
use Rattle.tl_check_inside.specs.declared.flanks.Flanks.{Flanks}
use Rattle.tl_check_points.specs.declared.counts.Part.{Part}
use Rattle.tl_check_points.specs.Keeping.Parts.{list_in, lists_in, IsPartOf}

pub none_in : (flanks : List Flanks) (parts : List (Option Part)) → All (λ part. part ≡ None) parts → All (λ known. known ≡ None) (lists_in flanks parts)
none_in flanks parts all =
    All-map (λ known. known ≡ None) (list_in flanks) parts
    (All-weaker (λ part. part ≡ None) (λ part. list_in flanks part ≡ None) (λ part e. ap (list_in flanks) e) parts all)

part_stays : (flanks more : List Flanks) (part : Option Part) → IsPartOf (length flanks) part → list_in (flanks ++ more) part ≡ list_in flanks part
part_stays flanks more None within = refl
part_stays flanks more (Some part) within =
    let long = length-drop part.from flanks in
    let few : part.to - part.from ≤ length (drop part.from flanks) = let a = within.0 in let b = within.1 in omega (arith, long, a, b) in
    ap Some (ap (take (part.to - part.from)) (drop-append-le part.from flanks more (let a = within.0 in let b = within.1 in omega (arith, a, b)))
    ∙ take-append-le (part.to - part.from) (drop part.from flanks) more few)

parts_stay : (flanks more : List Flanks) (parts : List (Option Part)) → All (IsPartOf (length flanks)) parts → lists_in (flanks ++ more) parts ≡ lists_in flanks parts
parts_stay flanks more [] all = refl
parts_stay flanks more (part ∷ parts) all =
    ap₂ (λ x xs. x ∷ xs) (part_stays flanks more part (All-head (IsPartOf (length flanks)) part parts all))
    (parts_stay flanks more parts (All-tail (IsPartOf (length flanks)) part parts all))

behind : (flanks more : List Flanks) → drop (length flanks) (flanks ++ more) ≡ more
behind [] more = refl
behind (f ∷ flanks) more = behind flanks more

last_part : (flanks more : List Flanks) (from to : ℕ) → from ≡ length flanks → to ≡ length (flanks ++ more) →
    list_in (flanks ++ more) (Some (record { from = from; to = to })) ≡ Some more
last_part flanks more from to first last =
    let long = length-append flanks more in
    ap Some (ap (λ k. take (to - from) (drop k (flanks ++ more))) first ∙ ap (take (to - from)) (behind flanks more)
    ∙ take_all (to - from) more (omega (arith, first, last, long)))

pub kept_part : (flanks more new : List Flanks) (parts : List (Option Part)) (place from to : ℕ) → new ≡ flanks ++ more →
    All (IsPartOf (length flanks)) parts → from ≡ length flanks → to ≡ length new →
    lists_in new (set parts place (Some (record { from = from; to = to }))) ≡ set (lists_in flanks parts) place (Some more)
kept_part flanks more new parts place from to pushed within first last =
    ap (λ l. lists_in l (set parts place (Some (record { from = from; to = to })))) pushed
    ∙ map-set (list_in (flanks ++ more)) parts place (Some (record { from = from; to = to }))
    ∙ ap₂ (λ l x. set l place x) (parts_stay flanks more parts within) (last_part flanks more from to first (last ∙ ap length pushed))
