-- The text of a border is read again.
use Rattle.std.proofs.Common.{◌≡◌, ℕ, zero, suc, ◌+◌, ◌-◌, ◌*◌, ◌^◌, ◌<◌, ◌≤◌, List, [], ◌∷◌, ◌++◌, length, slice_get, Option, Some, None, sum_by, refl, sym, ap, subst, ◌∙◌, arith, length-append}
use Rattle.std.specs.List.{flat_map, AllByRecursion}
use Rattle.std.proofs.lemmas.List.Sums.{sum_by-cons}
use Rattle.tl_geom.specs.declared.point.Point.{Point}
use Rattle.tl_record.specs.declared.record.Record.{Record}
use Rattle.tl_record.specs.declared.record.Record.TheVariants.{Chain, Shape, Sides}
use Rattle.tl_record.specs.Layout.{tiger_2006}
use Rattle.tl_record.specs.Records.{records_of}
use Rattle.tl_map_county.specs.declared.polygons.Polygon.{Polygon}
use Rattle.tl_map_county.specs.declared.sides.Side.{Side}
use Rattle.tl_map_county.specs.declared.sides.Side.TheVariants.{Outside, Polygon as InPolygon}
use Rattle.tl_map_county.specs.TheMap.{TheMap, MapChain}
use Rattle.tl_map_rules.specs.Faults.{HaveNoFault}
use Rattle.tl_map_rules.specs.MapOf.{IsMapOf}
use Rattle.tl_map_rules.specs.Reading.{IsReadFrom, records_in}
use Rattle.tl_map_rules.proofs.OneMapLemmas.{one_map}
use Rattle.tigertopo_border.specs.Whole.Told.{AreTold}
use Rattle.tigertopo_border.specs.Whole.Borders.{as_one, has_blank, IsBorderOf}
use Rattle.tigertopo_border.specs.Spelling.{records_text}
use Rattle.tigertopo_border.specs.Spellable.{IsPlaced, IsPair, ArePairs, IsName, IsKey, IsSideKey}
use Rattle.tigertopo_border.specs.Border.{border_key, side_key, start_of, end_of, inner, pairs_from, shapes_below, shape_count, chain_records, polygon_records, border_records, border_text}
use Rattle.tigertopo_border.specs.Readable.{IsTellable, IsReadable}
use Rattle.tigertopo_border.specs.Again.{IsReadAgain}
use Rattle.tigertopo_border.proofs.PairLemmas.{length_pairs_from}
use Rattle.tigertopo_border.proofs.BlockLemmas.{block}
use Rattle.tigertopo_border.proofs.TlidLemmas.{Rise, all_of}
use Rattle.tigertopo_border.proofs.FaultlessLemmas.{no_fault}
use Rattle.tigertopo_border.proofs.FilterLemmas.{told, same_records, each_told, rise_told, rise_from, fewer, less}
use Rattle.tigertopo_border.proofs.DrawnLemmas.{map_with, is_map, is_border}
use Rattle.tigertopo_border.proofs.TextLemmas.{AreSpellable, IsRead, text_read}

-- ---- each record can be spelt

both : (xs ys : List Record) → AreSpellable xs → AreSpellable ys → AreSpellable (xs ++ ys)
both [] ys a b = b
both (x ∷ xs) ys a b = (a.0, both xs ys a.1 b)

pair_more : (xs : List (Option Point)) (x : Option Point) → ArePairs xs → IsPair x → ArePairs (xs ++ x ∷ [])
pair_more [] x a b = (b, tt)
pair_more (y ∷ xs) x a b = (a.0, pair_more xs x a.1 b)

pair_at : (points : List Point) (k : ℕ) → AllByRecursion (λ p. IsPair (Some p)) points → IsPair (slice_get points k)
pair_at [] k all = tt
pair_at (p ∷ points) zero all = all.0
pair_at (p ∷ points) (suc k) all = pair_at points k all.1

pairs_fine : (points : List Point) (a n : ℕ) → AllByRecursion (λ p. IsPair (Some p)) points → ArePairs (pairs_from points a n)
pairs_fine points a zero all = tt
pairs_fine points a (suc n) all = pair_more (pairs_from points a n) (slice_get points (a + n)) (pairs_fine points a n all) (pair_at points (a + n) all)

shapes_fine : (tlid : ℕ) (points : List Point) (n : ℕ) → tlid < 10 ^ 10 → n < 1000 → AllByRecursion (λ p. IsPair (Some p)) points → AreSpellable (shapes_below tlid points n)
shapes_fine tlid points zero fits few all = tt
shapes_fine tlid points (suc n) fits few all =
    both (shapes_below tlid points n) (Shape tlid (n + 1) (pairs_from points (10 * n) 10) ∷ []) (shapes_fine tlid points n fits (omega (arith, few)) all)
    ((fits, omega (arith, few), length_pairs_from points (10 * n) 10, pairs_fine points (10 * n) 10 all), tt)

key_fine : (name : List ℕ) → IsName name → IsKey (border_key name)
key_fine name named = record { name = named; number = omega arith }

side_fine : (name : List ℕ) (side : Side) → IsName name → IsSideKey (side_key name side)
side_fine name Outside named = tt
side_fine name (InPolygon p) named = key_fine name named

block_fine : (name : List ℕ) (polygons : ℕ) (c : MapChain) → IsName name → IsTellable polygons c → AreSpellable (block name c)
unfolding chain_records
block_fine name polygons c named fine =
    let few = fine.few in
    both (Chain c.tlid (start_of c.points) (end_of c.points) ∷ shapes_below c.tlid (inner c.points) (shape_count c.points)) (Sides c.tlid None None (side_key name c.left) (side_key name c.right) ∷ [])
    ((fine.tlid, fine.start, fine.end), shapes_fine c.tlid (inner c.points) (shape_count c.points) fine.tlid (omega (arith, few)) fine.between)
    ((fine.tlid, refl, refl, side_fine name c.left named, side_fine name c.right named), tt)

blocks_fine : (name : List ℕ) (polygons : ℕ) (cs : List MapChain) → IsName name → AllByRecursion (IsTellable polygons) cs → AreSpellable (flat_map (block name) cs)
blocks_fine name polygons [] named all = tt
blocks_fine name polygons (c ∷ cs) named all = both (block name c) (flat_map (block name) cs) (block_fine name polygons c named all.0) (blocks_fine name polygons cs named all.1)

polygon_fine : (name : List ℕ) (polygons : List Polygon) → IsName name → AllByRecursion (λ polygon. IsPlaced polygon.point) polygons → AreSpellable (polygon_records name polygons)
polygon_fine name [] named all = tt
polygon_fine name (p ∷ rest) named all = ((key_fine name named, all.0), tt)

-- ---- there are not too many

length_shapes : (tlid : ℕ) (points : List Point) (n : ℕ) → length (shapes_below tlid points n) ≡ n
length_shapes tlid points zero = refl
length_shapes tlid points (suc n) = omega (arith, length-append (shapes_below tlid points n) (Shape tlid (n + 1) (pairs_from points (10 * n) 10) ∷ []), length_shapes tlid points n)

length_block : (name : List ℕ) (c : MapChain) → length (block name c) ≡ 2 + shape_count c.points
unfolding chain_records
length_block name c =
    omega (
      arith,
      length-append (Chain c.tlid (start_of c.points) (end_of c.points) ∷ shapes_below c.tlid (inner c.points) (shape_count c.points)) (Sides c.tlid None None (side_key name c.left) (side_key name c.right) ∷ []),
      length_shapes c.tlid (inner c.points) (shape_count c.points),
    )

length_blocks : (name : List ℕ) (polygons : ℕ) (cs : List MapChain) → AllByRecursion (IsTellable polygons) cs → length (flat_map (block name) cs) ≤ 2 * length cs + sum_by (λ c. length c.points - 1) cs
length_blocks name polygons [] all = omega arith
length_blocks name polygons (c ∷ cs) all =
    let several = all.0.proper.several in
    omega (arith, several, length-append (block name c) (flat_map (block name) cs), length_block name c, length_blocks name polygons cs all.1, sum_by-cons (λ (d : MapChain). length d.points - 1) c cs)

length_last : (name : List ℕ) (polygons : List Polygon) → length (polygon_records name polygons) ≤ 1
length_last name [] = omega arith
length_last name (p ∷ rest) = omega arith

-- ---- the law

border_is : (name : List ℕ) (m : TheMap) → border_records name m ≡ all_of name (told m.chains) m.polygons
unfolding border_records
border_is name m = ap (λ rs. rs ++ polygon_records name m.polygons) (same_records name m.chains)

module _ (name : List ℕ) (m : TheMap) (named : IsName name) (readable : IsReadable m) where
  rise : Rise (told m.chains)
  rise = rise_told m.chains (rise_from m.chains readable.rising)

  tellable : AllByRecursion (IsTellable (length m.polygons)) (told m.chains)
  tellable = each_told (IsTellable (length m.polygons)) m.chains readable.chains

  read : IsRead (records_of tiger_2006 (border_text name m)) (all_of name (told m.chains) m.polygons)
  read =
      let few = readable.few_chains in
      let short = readable.few_segments in
      subst (λ rs. IsRead (records_of tiger_2006 (records_text rs)) (all_of name (told m.chains) m.polygons)) (sym (border_is name m))
      (text_read (all_of name (told m.chains) m.polygons)
      (both (flat_map (block name) (told m.chains)) (polygon_records name m.polygons) (blocks_fine name (length m.polygons) (told m.chains) named tellable) (polygon_fine name m.polygons named readable.points))
      (omega (
        arith,
        few,
        short,
        fewer m.chains,
        less m.chains,
        length-append (flat_map (block name) (told m.chains)) (polygon_records name m.polygons),
        length_blocks name (length m.polygons) (told m.chains) tellable,
        length_last name m.polygons,
      )))

  faultless : HaveNoFault (all_of name (told m.chains) m.polygons)
  faultless =
      let few = readable.few_chains in
      let short = readable.few_segments in
      no_fault name (told m.chains) m.polygons rise tellable (omega (arith, few, fewer m.chains)) (omega (arith, short, less m.chains))

  none : HaveNoFault (records_in (records_of tiger_2006 (border_text name m)))
  none = subst HaveNoFault (sym read.entries) faultless

  drawn_map : IsReadFrom (records_of tiger_2006 (border_text name m)) (map_with name (told m.chains) m.polygons)
  drawn_map = record {
    no_refusal = read.refusal;
    no_fault = none;
    none_lacking = refl;
    map = subst (λ rs. IsMapOf rs (map_with name (told m.chains) m.polygons)) (sym read.entries) (is_map name (told m.chains) m.polygons rise tellable);
    skipped_lines = sym read.skipped;
  }

  any_is : (b : TheMap) → IsReadFrom (records_of tiger_2006 (border_text name m)) b → IsBorderOf m b
  any_is b is =
      let same = one_map (records_in (records_of tiger_2006 (border_text name m))) b (map_with name (told m.chains) m.polygons) none is.map drawn_map.map in
      let border = is_border name m in
      record {
        chains = subst (λ cs. AreTold as_one has_blank m.chains cs) (sym same.0) border.chains;
        many = ap (λ (ps : List Polygon). length ps) same.1 ∙ border.many;
        points = λ polygon there. border.points polygon (ap (λ (ps : List Polygon). slice_get ps 0) (sym same.1) ∙ there);
      }

  pub read_again : IsReadAgain name m
  read_again = record { no_refusal = read.refusal; no_fault = none; border = map_with name (told m.chains) m.polygons; drawn = drawn_map; is_border = any_is }
