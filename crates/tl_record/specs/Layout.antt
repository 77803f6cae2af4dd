-- The column table of the TIGER/Line files of 2006, as data: this project's own profile of the documentation, with what
-- may be chosen of type I and of landmarks.
use Rattle.std.specs.Prelude.{[], ◌∷◌, Option, Some, None, false, if◌then◌else◌}
use Rattle.tl_record.specs.Range.{Range, columns}
use Rattle.tl_record.specs.declared.options.Options.{Options}
use Rattle.tl_record.specs.declared.layout.Layout.{Layout}
use Rattle.tl_record.specs.declared.layout.ChainColumns.{ChainColumns}
use Rattle.tl_record.specs.declared.layout.ShapeColumns.{ShapeColumns}
use Rattle.tl_record.specs.declared.layout.CellColumns.{CellColumns}
use Rattle.tl_record.specs.declared.layout.SidesColumns.{SidesColumns}
use Rattle.tl_record.specs.declared.layout.KeyColumns.{KeyColumns}
use Rattle.tl_record.specs.declared.layout.PolyPointColumns.{PolyPointColumns}
use Rattle.tl_record.specs.declared.layout.LandmarkColumns.{LandmarkColumns}
use Rattle.tl_record.specs.declared.layout.AreaLinkColumns.{AreaLinkColumns}
use Rattle.tl_record.specs.declared.layout.LandmarksColumns.{LandmarksColumns}

-- type 1
abbrev pub tiger_2006_chain : ChainColumns
tiger_2006_chain = record {
  tlid = columns 6 15;
  from = record { long = columns 191 200; lat = columns 201 209 };
  to = record { long = columns 210 219; lat = columns 220 228 };
}

-- type 2, with its ten coordinate pairs
abbrev pub tiger_2006_shape : ShapeColumns
tiger_2006_shape = record {
  tlid = columns 6 15;
  rtsq = columns 16 18;
  pairs =
      record { long = columns 19 28; lat = columns 29 37 } ∷
      record { long = columns 38 47; lat = columns 48 56 } ∷
      record { long = columns 57 66; lat = columns 67 75 } ∷
      record { long = columns 76 85; lat = columns 86 94 } ∷
      record { long = columns 95 104; lat = columns 105 113 } ∷
      record { long = columns 114 123; lat = columns 124 132 } ∷
      record { long = columns 133 142; lat = columns 143 151 } ∷
      record { long = columns 152 161; lat = columns 162 170 } ∷
      record { long = columns 171 180; lat = columns 181 189 } ∷
      record { long = columns 190 199; lat = columns 200 208 } ∷ [];
}

-- the TLID of type I: in the files as they were released, FILE stands before it in columns 6 to 10
abbrev pub sides_tlid : Options → Range
sides_tlid options = if options.released then columns 11 20 else columns 6 15

-- TZIDS and TZIDE of type I, where the zero-cell ids are read
abbrev pub sides_cells : Options → Option CellColumns
sides_cells options = if options.zero_cells then Some (record { start = columns 21 30; end = columns 31 40 }) else None

-- type I, with the left side's key and the right side's
abbrev pub sides_with : Options → SidesColumns
sides_with options = record {
  tlid = sides_tlid options;
  cells = sides_cells options;
  left = record { cenid = columns 41 45; polyid = columns 46 55 };
  right = record { cenid = columns 56 60; polyid = columns 61 70 };
}

-- the key of types P and 8
abbrev pub tiger_2006_key : KeyColumns
tiger_2006_key = record { cenid = columns 11 15; polyid = columns 16 25 }

-- type P
abbrev pub tiger_2006_poly_point : PolyPointColumns
tiger_2006_poly_point = record { key = tiger_2006_key; point = record { long = columns 26 35; lat = columns 36 44 } }

-- type 7
abbrev pub tiger_2006_landmark : LandmarkColumns
tiger_2006_landmark = record { land = columns 11 20; point = record { long = columns 55 64; lat = columns 65 73 } }

-- type 8
abbrev pub tiger_2006_area_link : AreaLinkColumns
tiger_2006_area_link = record { key = tiger_2006_key; land = columns 26 35 }

-- types 7 and 8, which aren't read where counties are joined: a LAND is a county's own number
abbrev pub landmarks_with : Options → Option LandmarksColumns
landmarks_with options = if options.join then None else Some (record { landmark = tiger_2006_landmark; area_link = tiger_2006_area_link })

-- the column table with these options
abbrev pub layout_with : Options → Layout
layout_with options = record {
  chain = tiger_2006_chain;
  shape = tiger_2006_shape;
  sides = sides_with options;
  poly_point = tiger_2006_poly_point;
  landmarks = landmarks_with options;
  joins = options.join;
  complete = options.complete;
}

-- the column table where nothing is chosen: TLID of type I in columns 6 to 15, and no zero-cell ids
abbrev pub tiger_2006 : Layout
tiger_2006 = layout_with (record { zero_cells = false; released = false; faces = false; join = false; complete = false })
