-- The map that joined records draw, chain by chain, and the maps that each list of records draws.
use Rattle.std.proofs.Common.{◌≡◌, ℕ, zero, suc, List, [], ◌∷◌, ◌++◌, length, map, Contains, Option, Some, None, refl, sym, ap, ◌∙◌, arith}
use Rattle.std.specs.Prelude.{slice_get}
use Rattle.std.specs.List.{AllByRecursion}
use Rattle.std.proofs.lemmas.List.Elements.{All-contains}
use Rattle.tl_geom.specs.declared.point.Point.{Point}
use Rattle.tl_record_key.specs.declared.key.PolyKey.{PolyKey}
use Rattle.tl_record.specs.declared.record.Record.{Record}
use Rattle.tl_record.specs.declared.record.Record.TheVariants.{Chain, Sides}
use Rattle.tl_map.proofs.JoinedLemmas.ApartLemmas.{key}
use Rattle.tl_map_county.specs.Chains.{CompleteChain, tlids}
use Rattle.tl_map_county.specs.TheMap.{TheMap, MapChain}
use Rattle.tl_map_rules.specs.declared.entry.SidesEntry.{SidesEntry}
use Rattle.tl_map_rules.specs.ChainsOf.{pairs_of, points_between, IsDrawn}
use Rattle.tl_map_rules.specs.MapOf.{sides_in, polygons_in, keys, side_of, without_sides, IsSided, IsMapOf}
use Rattle.tl_map_rules.specs.Faults.{HasChain}
use Rattle.tigertopo_border.specs.Parts.{all_records, HaveNoFaultButMany}
use Rattle.tigertopo_border.proofs.Joining.KeyedLemmas.{told, AreJoinedOf, joined_none}
use Rattle.tigertopo_border.proofs.Joining.InLemmas.{In, contained, from_contained, in_mapped, from_mapped, one_of_one}
use Rattle.tigertopo_border.proofs.Joining.TellLemmas.{Tells, tells, first_told, at_chain, at_sides, from_entries, chain_record}
use Rattle.tigertopo_border.proofs.Joining.SeveralLemmas.{of_one}
use Rattle.tigertopo_border.proofs.Joining.WithoutLemmas.{polygons_both}
use Rattle.tigertopo_border.proofs.Joining.HomeLemmas.{polygons_of}
use Rattle.tigertopo_border.proofs.Joining.WalkLemmas.{HasTlid}

-- ---- two lists of one length

pub by_places : {X : Type 0} (P : X → Type 0) (lists : List X) → ((k : ℕ) (rs : X) → slice_get lists k ≡ Some rs → P rs) → AllByRecursion P lists
by_places P [] each = tt
by_places P (rs ∷ lists) each = (each 0 rs refl, by_places P lists (λ k one is. each (suc k) one is))

pub item_beside : {X Y : Type 0} (xs : List X) (ys : List Y) (k : ℕ) (y : Y) → length xs ≡ length ys → slice_get ys k ≡ Some y → (x : X) × (slice_get xs k ≡ Some x)
item_beside xs [] k y same is = absurd (let wrong : None ≡ Some y = is in cc)
item_beside [] (z ∷ ys) k y same is = absurd (omega (arith, same))
item_beside (x ∷ xs) (z ∷ ys) zero y same is = (x, refl)
item_beside (x ∷ xs) (z ∷ ys) (suc k) y same is = item_beside xs ys k y (omega (arith, same)) is

pub polygons_are : (lists : List (List Record)) (parts : List TheMap) → length lists ≡ length parts
    → ((k : ℕ) (rs : List Record) (part : TheMap) → slice_get lists k ≡ Some rs → slice_get parts k ≡ Some part → part.polygons ≡ polygons_in rs) → polygons_in (all_records lists) ≡ polygons_of parts
polygons_are [] [] same each = refl
polygons_are [] (part ∷ parts) same each = absurd (omega (arith, same))
polygons_are (rs ∷ lists) [] same each = absurd (omega (arith, same))
polygons_are (rs ∷ lists) (part ∷ parts) same each =
    let first = each 0 rs part refl refl in
    let rest = polygons_are lists parts (omega (arith, same)) (λ k one m is at. each (suc k) one m is at) in
    polygons_both rs lists ∙ (λ i. sym first i ++ rest i)

-- ---- chains of a map by their records

pub drawn_in : (rs : List Record) (m : TheMap) (c : MapChain) → IsMapOf rs m → In c m.chains → IsDrawn rs (without_sides c)
drawn_in rs m c is has =
    All-contains (IsDrawn rs) (map without_sides m.chains) (without_sides c) is.chains.drawn (contained (map without_sides m.chains) (without_sides c) (in_mapped without_sides m.chains c has))

pub sided_in : (rs : List Record) (m : TheMap) (c : MapChain) → IsMapOf rs m → In c m.chains → IsSided rs c
sided_in rs m c is has = All-contains (IsSided rs) m.chains c is.sides (contained m.chains c has)

-- a type 1 record has its chain
pub chain_with : (rs : List Record) (m : TheMap) (t : ℕ) → IsMapOf rs m → HasChain rs t → HasTlid m.chains t
chain_with rs m t is has =
    let there = from_contained (tlids (map without_sides m.chains)) t (is.chains.complete t has.0 has.1 has.2) in
    let first = from_mapped (λ (c : CompleteChain). c.tlid) (map without_sides m.chains) t there in
    let second = from_mapped without_sides m.chains first.0 first.1 in
    record { one = second.0; has = second.1; tlid = ap (λ (c : CompleteChain). c.tlid) second.2 ∙ first.2 }

pub chain_of : (rs : List Record) (m : TheMap) (t : ℕ) (c : MapChain) → IsMapOf rs m → In c m.chains → c.tlid ≡ t → HasChain rs t
chain_of rs m t c is has same = let drawn = drawn_in rs m c is has in rw (← same) (drawn.from, drawn.to, drawn.record_of_it)

-- the one type 1 record of a TLID
only_chain : (rs : List Record) (t : ℕ) (f g : Point) (c : MapChain) (drawn : IsDrawn rs (without_sides c)) → c.tlid ≡ t → told (key t 49 0) rs ≡ Chain t f g ∷ [] → Chain t f g ≡ Chain t drawn.from drawn.to
only_chain rs t f g c drawn same is =
    let there : Contains rs (Chain c.tlid drawn.from drawn.to) = drawn.record_of_it in
    let here : Contains rs (Chain t drawn.from drawn.to) = rw same at there in
    one_of_one (told (key t 49 0) rs) (Chain t f g) (Chain t drawn.from drawn.to) is (at_chain rs t drawn.from drawn.to (from_contained rs (Chain t drawn.from drawn.to) here))

-- chains that are told alike have the same points
pub same_points : (js rs : List Record) (t : ℕ) (c o : MapChain) → c.tlid ≡ t → o.tlid ≡ t → IsDrawn js (without_sides c) → IsDrawn rs (without_sides o)
    → told (key t 49 0) js ≡ told (key t 49 0) rs → pairs_of js t ≡ pairs_of rs t → Tells rs t → o.points ≡ c.points
same_points js rs t c o c_tlid o_tlid c_drawn o_drawn chain pairs it =
    let one : Chain t it.from it.to ≡ Chain t c_drawn.from c_drawn.to = only_chain js t it.from it.to c c_drawn c_tlid (chain ∙ it.chain) in
    let other : Chain t it.from it.to ≡ Chain t o_drawn.from o_drawn.to = only_chain rs t it.from it.to o o_drawn o_tlid it.chain in
    let from : o_drawn.from ≡ c_drawn.from = cc (one, other) in
    let to : o_drawn.to ≡ c_drawn.to = cc (one, other) in
    let same : pairs_of rs o.tlid ≡ pairs_of js c.tlid = ap (pairs_of rs) o_tlid ∙ sym pairs ∙ ap (pairs_of js) (sym c_tlid) in
    o_drawn.points ∙ (λ i. points_between (from i) (same i) (to i)) ∙ sym c_drawn.points

-- a chain's sides are those of its one type I record
pub record AreSides (rs : List Record) (c : MapChain) (l r : Option PolyKey) : Type 0 where
  pub left : c.left ≡ side_of (keys (polygons_in rs)) l
  pub right : c.right ≡ side_of (keys (polygons_in rs)) r

pub sides_are : (rs : List Record) (t : ℕ) (c : MapChain) (s e : Option ℕ) (l r : Option PolyKey) → IsSided rs c → c.tlid ≡ t → told (key t 73 0) rs ≡ Sides t s e l r ∷ [] → AreSides rs c l r
sides_are rs t c s e l r sided same is =
    let said : SidesEntry = sided.sides in
    let there : In (Sides said.tlid said.start_cell said.end_cell said.left said.right) rs = from_entries rs said (from_contained (sides_in rs) said sided.record_of_it) in
    let tlid : said.tlid ≡ t = sided.tlid ∙ same in
    let here : In (Sides t said.start_cell said.end_cell said.left said.right) rs = rw tlid at there in
    let one : Sides t s e l r ≡ Sides t said.start_cell said.end_cell said.left said.right =
    one_of_one (told (key t 73 0) rs) (Sides t s e l r) _ is (at_sides rs t said.start_cell said.end_cell said.left said.right here) in
    let left : said.left ≡ l = cc (one) in
    let right : said.right ≡ r = cc (one) in
    record { left = sided.left ∙ ap (side_of (keys (polygons_in rs))) left; right = sided.right ∙ ap (side_of (keys (polygons_in rs))) right }

-- each chain of joined records is told by some list of records
pub record IsSomeones (lists : List (List Record)) (t : ℕ) : Type 0 where
  pub place : ℕ
  pub one : List Record
  pub is : slice_get lists place ≡ Some one
  pub it : Tells one t

pub someones : (lists : List (List Record)) (js : List Record) → AreJoinedOf js (all_records lists) → ((k : ℕ) (rs : List Record) → slice_get lists k ≡ Some rs → HaveNoFaultButMany rs) → (t : ℕ) → HasChain js t → IsSomeones lists t
someones lists js of fine t has = go (told (key t 49 0) (all_records lists)) refl
  where
    go : (xs : List Record) → told (key t 49 0) (all_records lists) ≡ xs → IsSomeones lists t
    go [] none =
        let there = at_chain js t has.0 has.1 (from_contained js (Chain t has.0 has.1) has.2) in
        let nothing = of.told_is (key t 49 0) ∙ joined_none (all_records lists) (key t 49 0) none in
        absurd (rw nothing at there)
    go (x ∷ xs) some =
        let first = first_told (key t 49 0) (all_records lists) x xs some in
        let chain = chain_record t x first.1 in
        let within : In (Chain t chain.from chain.to) (all_records lists) = rw chain.is at first.0 in
        let found = of_one lists (Chain t chain.from chain.to) within in
        record {
          place = found.place;
          one = found.one;
          is = found.is;
          it = tells found.one (fine found.place found.one found.is) t (chain.from, chain.to, contained found.one (Chain t chain.from chain.to) found.has);
        }
