-- Records draw one map, so claims of it hold together.
use Rattle.std.proofs.Common.{◌≡◌, sym, ap₂, subst, ◌∙◌}
use Rattle.tl_record.specs.Records.{Records}
use Rattle.tl_map_county.specs.TheMap.{TheMap}
use Rattle.tl_map_rules.specs.Reading.{IsReadFrom, records_in}
use Rattle.tl_map_rules.proofs.OneMapLemmas.{one_map}
use Rattle.tl_check_verdict.specs.Records.{HaveMap}

pub same_map : (all : Records) (m n : TheMap) → IsReadFrom all m → IsReadFrom all n → m ≡ n
same_map all m n one other =
    let same = one_map (records_in all) m n one.no_fault one.map other.map in
    ap₂ (λ cs ps. record m { chains = cs; polygons = ps }) same.0 same.1
    ∙ ap₂ (λ ls k. record n { landmarks = ls; skipped = k }) same.2 (one.skipped_lines ∙ sym other.skipped_lines)

-- two claims of the map of the same records hold of one map
pub both : (all : Records) (P Q : TheMap → Type 0) → HaveMap all P → HaveMap all Q → HaveMap all (λ m. P m × Q m)
both all P Q one other = record {
  map = one.map;
  is_read = one.is_read;
  so = (one.so, subst Q (same_map all other.map one.map other.is_read one.is_read) other.so);
}

pub weaker : (all : Records) (P Q : TheMap → Type 0) → ((m : TheMap) → P m → Q m) → HaveMap all P → HaveMap all Q
weaker all P Q leads have = record { map = have.map; is_read = have.is_read; so = leads have.map have.so }
