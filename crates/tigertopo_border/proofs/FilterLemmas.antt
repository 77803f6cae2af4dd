-- The chains of a border, of all chains of a map.
use Rattle.std.proofs.Common.{◌≡◌, ℕ, zero, suc, ◌+◌, ◌-◌, ◌<◌, ◌≤◌, Bool, true, false, List, [], ◌∷◌, ◌++◌, length, map, filter, get_or, sum_by, refl, ap, arith}
use Rattle.std.specs.List.{flat_map, AllByRecursion}
use Rattle.std.specs.List.Sorted.{IsStrictlyIncreasing}
use Rattle.std.proofs.lemmas.List.Sums.{sum_by-cons}
use Rattle.tl_map_county.specs.Chains.{tlids}
use Rattle.tl_map_county.specs.TheMap.{MapChain}
use Rattle.tl_map_rules.specs.MapOf.{without_sides}
use Rattle.tl_map_rules.proofs.KnownLemmas.{far}
use Rattle.tigertopo_border.specs.Whole.Borders.{has_blank}
use Rattle.tigertopo_border.specs.Border.{records_of_chain}
use Rattle.tigertopo_border.proofs.BlockLemmas.{block}
use Rattle.tigertopo_border.proofs.TlidLemmas.{AreLater, Rise}

abbrev pub told : List MapChain → List MapChain
told chains = filter has_blank chains

-- the same records
records_step : (name : List ℕ) (c : MapChain) (cs : List MapChain) (b : Bool) → has_blank c ≡ b → flat_map (records_of_chain name) cs ≡ flat_map (block name) (told cs)
    → flat_map (records_of_chain name) (c ∷ cs) ≡ flat_map (block name) (told (c ∷ cs))
records_step name c cs true is rest = rw is (ap (λ rs. block name c ++ rs) rest)
records_step name c cs false is rest = rw is rest

pub same_records : (name : List ℕ) (chains : List MapChain) → flat_map (records_of_chain name) chains ≡ flat_map (block name) (told chains)
same_records name [] = refl
same_records name (c ∷ cs) = records_step name c cs (has_blank c) refl (same_records name cs)

-- what holds of each chain holds of these
each_step : (P : MapChain → Type 0) (c : MapChain) (cs : List MapChain) (b : Bool) → has_blank c ≡ b → P c → AllByRecursion P (told cs) → AllByRecursion P (told (c ∷ cs))
each_step P c cs true is here rest = rw is (here, rest)
each_step P c cs false is here rest = rw is rest

pub each_told : (P : MapChain → Type 0) (chains : List MapChain) → AllByRecursion P chains → AllByRecursion P (told chains)
each_told P [] all = tt
each_told P (c ∷ cs) all = each_step P c cs (has_blank c) refl all.0 (each_told P cs all.1)

-- they rise
later_step : (t : ℕ) (c : MapChain) (cs : List MapChain) (b : Bool) → has_blank c ≡ b → t < c.tlid → AreLater t (told cs) → AreLater t (told (c ∷ cs))
later_step t c cs true is here rest = rw is (here, rest)
later_step t c cs false is here rest = rw is rest

later_told : (t : ℕ) (chains : List MapChain) → AreLater t chains → AreLater t (told chains)
later_told t [] later = tt
later_told t (c ∷ cs) later = later_step t c cs (has_blank c) refl later.0 (later_told t cs later.1)

rise_step : (c : MapChain) (cs : List MapChain) (b : Bool) → has_blank c ≡ b → AreLater c.tlid (told cs) → Rise (told cs) → Rise (told (c ∷ cs))
rise_step c cs true is later rest = rw is (later, rest)
rise_step c cs false is later rest = rw is rest

pub rise_told : (chains : List MapChain) → Rise chains → Rise (told chains)
rise_told [] rise = tt
rise_told (c ∷ cs) rise = rise_step c cs (has_blank c) refl (later_told c.tlid cs rise.0) (rise_told cs rise.1)

-- they are no more
fewer_step : (c : MapChain) (cs : List MapChain) (b : Bool) → has_blank c ≡ b → length (told cs) ≤ length cs → length (told (c ∷ cs)) ≤ length (c ∷ cs)
fewer_step c cs true is rest = rw is (omega (arith, rest))
fewer_step c cs false is rest = rw is (omega (arith, rest))

pub fewer : (chains : List MapChain) → length (told chains) ≤ length chains
fewer [] = omega arith
fewer (c ∷ cs) = fewer_step c cs (has_blank c) refl (fewer cs)

abbrev pub segments : MapChain → ℕ
segments c = length c.points - 1

less_step : (c : MapChain) (cs : List MapChain) (b : Bool) → has_blank c ≡ b → sum_by segments (told cs) ≤ sum_by segments cs → sum_by segments (told (c ∷ cs)) ≤ sum_by segments (c ∷ cs)
less_step c cs true is rest = rw is (omega (arith, rest, sum_by-cons segments c (told cs), sum_by-cons segments c cs))
less_step c cs false is rest = rw is (omega (arith, rest, sum_by-cons segments c cs))

pub less : (chains : List MapChain) → sum_by segments (told chains) ≤ sum_by segments chains
less [] = omega arith
less (c ∷ cs) = less_step c cs (has_blank c) refl (less cs)

-- ---- rising TLIDs, told otherwise

later_from : (t : ℕ) (chains : List MapChain) → ((j : ℕ) → j < length (tlids (map without_sides chains)) → t < get_or (tlids (map without_sides chains)) j 0) → AreLater t chains
later_from t [] up = tt
later_from t (c ∷ cs) up = (up 0 (omega arith), later_from t cs (λ j lt. up (suc j) (omega (arith, lt))))

rise_by : (chains : List MapChain) → ((i j : ℕ) → i < j → j < length (tlids (map without_sides chains)) → get_or (tlids (map without_sides chains)) i 0 < get_or (tlids (map without_sides chains)) j 0) → Rise chains
rise_by [] up = tt
rise_by (c ∷ cs) up =
    (later_from c.tlid cs (λ j lt. up 0 (suc j) (omega arith) (omega (arith, lt))), rise_by cs (λ i j before lt. up (suc i) (suc j) (omega (arith, before)) (omega (arith, lt))))

pub rise_from : (chains : List MapChain) → IsStrictlyIncreasing (tlids (map without_sides chains)) → Rise chains
rise_from chains up = rise_by chains (far (tlids (map without_sides chains)) up)

pub rising_again : (f : MapChain → MapChain) → ((c : MapChain) → (f c).tlid ≡ c.tlid) → (cs : List MapChain) → Rise cs → IsStrictlyIncreasing (tlids (map without_sides (map f cs)))
rising_again f same [] rise k lt = absurd (omega (arith, lt))
rising_again f same (c ∷ []) rise k lt = absurd (omega (arith, lt))
rising_again f same (c ∷ d ∷ cs) rise zero lt = let up = rise.0.0 in rw (same c, same d) up
rising_again f same (c ∷ d ∷ cs) rise (suc k) lt =
    let e : suc k + 1 ≡ suc (k + 1) = omega arith in
    rw e (rising_again f same (d ∷ cs) rise.1 k (omega (arith, lt)))
