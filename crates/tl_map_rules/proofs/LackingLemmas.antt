-- Where nothing is lacking, there is a record of each type.
use Rattle.std.proofs.Common.{◌≡◌, ℕ, ◌≤◌, suc, zero, Bool, true, false, ◌||◌, ◌==◌, List, length, refl, arith}
use Rattle.std.specs.Prelude.{IsTrue}
use Rattle.tl_record.specs.declared.record.Record.{Record}
use Rattle.tl_record.specs.Records.{Records}
use Rattle.tl_map_county.specs.TheMap.{TheMap}
use Rattle.tl_map_rules.specs.ChainsOf.{chain_count}
use Rattle.tl_map_rules.specs.MapOf.{sides_in}
use Rattle.tl_map_rules.specs.Lacking.{IsComplete, lacking_in, lacks}
use Rattle.tl_map_rules.specs.Reading.{IsReadFrom, records_in}

-- neither is so
neither : (a b : Bool) → (a || b) ≡ false → (a ≡ false) × (b ≡ false)
neither false false none = (refl, refl)
neither false true none = absurd (cc)
neither true b none = absurd (cc)

-- what isn't 0 is 1 at least
some : (n : ℕ) → (n == 0) ≡ false → 1 ≤ n
some zero is = absurd (cc)
some (suc n) is = omega arith

complete : (rs : List Record) → lacks (lacking_in rs) ≡ false → IsComplete rs
complete rs none =
    let first = neither (chain_count rs == 0) _ none in
    let second = neither (length (sides_in rs) == 0) _ first.1 in
    record { chains = some _ first.0; sides = some _ second.0; polygons = some _ second.1 }

pub complete_read : (all : Records) (m : TheMap) → IsReadFrom all m → IsTrue all.complete → IsComplete (records_in all)
complete_read all m is asked =
    let none = is.none_lacking in
    complete (records_in all) (rw asked at none)
