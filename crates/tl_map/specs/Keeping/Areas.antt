-- Kept on the way: the records of sides, polygons, landmarks and links.
use Rattle.std.specs.Prelude.{◌≡◌, List}
use Rattle.std.specs.List.Sorted.{IsPermutation}
use Rattle.tl_record.specs.declared.record.Record.{Record}
use Rattle.tl_map.specs.declared.areas.AreaRecords.{AreaRecords}
use Rattle.tl_map_rules.specs.MapOf.{sides_in, polygons_in, landmarks_in, links_in}

-- the type I, P, 7 and 8 records are kept, each in file order
pub record KeepsAreas (rs : List Record) (a : AreaRecords) : Type 0 where
  pub sides : a.sides ≡ sides_in rs
  pub polygons : a.polygons.items ≡ polygons_in rs
  pub landmarks : a.landmarks.items ≡ landmarks_in rs
  pub links : a.links.items ≡ links_in rs

-- the same, the type I records in any order
pub record LeavesAreas (rs : List Record) (a : AreaRecords) : Type 0 where
  pub sides : IsPermutation (sides_in rs) a.sides
  pub polygons : a.polygons.items ≡ polygons_in rs
  pub landmarks : a.landmarks.items ≡ landmarks_in rs
  pub links : a.links.items ≡ links_in rs

-- the same records, of type I in another order
pub record AreSameAreas (old new : AreaRecords) : Type 0 where
  pub sides : IsPermutation old.sides new.sides
  pub polygons : new.polygons.items ≡ old.polygons.items
  pub landmarks : new.landmarks.items ≡ old.landmarks.items
  pub links : new.links.items ≡ old.links.items
