-- Lists of records that are joined themselves, or stand as they are, are the parts of all records joined.
use Rattle.std.proofs.Common.{◌≡◌, ℕ, zero, suc, Bool, true, false, List, [], ◌∷◌, map, Some, None, refl, subst, ◌∙◌}
use Rattle.std.specs.Prelude.{slice_get}
use Rattle.std.proofs.lemmas.List.{length-map}
use Rattle.tl_record.specs.declared.record.Record.{Record}
use Rattle.tl_map.specs.Joined.Told.{joined_records}
use Rattle.tl_map_county.specs.TheMap.{TheMap}
use Rattle.tl_map_rules.specs.MapOf.{IsMapOf}
use Rattle.tigertopo_border.specs.Whole.Joined.{IsJoined}
use Rattle.tigertopo_border.specs.Parts.{all_records, homes_of, DrawParts, HaveNoFaultButMany}
use Rattle.tigertopo_border.proofs.Joining.KeyedLemmas.{joined_itself}
use Rattle.tigertopo_border.proofs.Joining.DrawnLemmas.{by_places}
use Rattle.tigertopo_border.proofs.Joining.StepLemmas.{joined_in_steps}
use Rattle.tigertopo_border.proofs.Joining.PartLemmas.{is_joined}

pub from_map : {X Y : Type 0} (f : X → Y) (xs : List X) (k : ℕ) (y : Y) → slice_get (map f xs) k ≡ Some y → (x : X) × (slice_get xs k ≡ Some x) × (f x ≡ y)
from_map f [] k y is = absurd (let wrong : None ≡ Some y = is in cc)
from_map f (x ∷ xs) zero y is = (x, refl, let e : Some (f x) ≡ Some y = is in cc)
from_map f (x ∷ xs) (suc k) y is = from_map f xs k y is

draw_joined : (lists : List (List Record)) (parts : List TheMap) → DrawParts true lists parts → DrawParts false (map joined_records lists) parts
draw_joined lists parts draw = record {
  many = length-map lists joined_records ∙ draw.many;
  no_fault = λ k rs there.
      let one = from_map joined_records lists k rs there in
      subst HaveNoFaultButMany one.2 (draw.no_fault k one.0 one.1);
  drawn = λ k rs part there at.
      let one = from_map joined_records lists k rs there in
      subst (λ qs. IsMapOf qs part) one.2 (draw.drawn k one.0 part one.1 at);
}

pub parts_joined : (join : Bool) (lists : List (List Record)) (parts : List TheMap) (m : TheMap) → DrawParts join lists parts → HaveNoFaultButMany (joined_records (all_records lists))
    → IsMapOf (joined_records (all_records lists)) m → IsJoined (homes_of parts) parts m
parts_joined false lists parts m draw fine is_map = is_joined lists parts m draw (joined_records (all_records lists)) (joined_itself (all_records lists)) fine is_map
parts_joined true lists parts m draw fine is_map =
    is_joined (map joined_records lists) parts m (draw_joined lists parts draw) (joined_records (all_records lists))
    (joined_in_steps lists (by_places (λ rs. HaveNoFaultButMany (joined_records rs)) lists draw.no_fault) fine) fine is_map
