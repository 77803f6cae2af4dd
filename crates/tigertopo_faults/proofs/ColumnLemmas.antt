-- The columns of shape pairs, which are numbered from 1.
use Rattle.std.proofs.Common.{◌≡◌, ◌≢◌, ℕ, zero, suc, ◌-◌, Option, ap, refl, sym, ◌∙◌, arith}
use Rattle.std.specs.Prelude.{option_map, slice_get}
use Rattle.tl_record.specs.declared.layout.ShapeColumns.{ShapeColumns}
use Rattle.tl_record.specs.declared.layout.PointColumns.{PointColumns}
use Rattle.tl_record.specs.declared.stop.Field.TheVariants.{Long, Lat}
use Rattle.tl_record.specs.Range.{Range}
use Rattle.tigertopo_faults.specs.Places.FieldColumns.{shape_columns}

-- the pair with this number is the one that stands so far behind the first
at_number : (columns : ShapeColumns) (pair number : ℕ) (got : Option PointColumns) (part : PointColumns → Range) (before : ℕ) → pair ≡ suc before → number ≡ pair → slice_get columns.pairs (number - 1) ≡ got
    → option_map part got ≡ option_map part (slice_get columns.pairs before)
at_number columns pair number got part before is same there =
    let place : number - 1 ≡ before = omega (arith, is, same) in ap (option_map part) (sym there ∙ ap (slice_get columns.pairs) place)

pub long_at : (columns : ShapeColumns) (pair number : ℕ) (got : Option PointColumns) → pair ≢ 0 → number ≡ pair → slice_get columns.pairs (number - 1) ≡ got
    → option_map (λ (at : PointColumns). at.long) got ≡ shape_columns columns (Long pair)
long_at columns zero number got some same there = absurd (some refl)
long_at columns (suc before) number got some same there = at_number columns (suc before) number got (λ at. at.long) before refl same there

pub lat_at : (columns : ShapeColumns) (pair number : ℕ) (got : Option PointColumns) → pair ≢ 0 → number ≡ pair → slice_get columns.pairs (number - 1) ≡ got
    → option_map (λ (at : PointColumns). at.lat) got ≡ shape_columns columns (Lat pair)
lat_at columns zero number got some same there = absurd (some refl)
lat_at columns (suc before) number got some same there = at_number columns (suc before) number got (λ at. at.lat) before refl same there
