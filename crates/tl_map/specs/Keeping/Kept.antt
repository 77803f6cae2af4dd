-- Kept on the way: type I records in rows, and what some have beside them.
use Rattle.std.specs.Prelude.{◌≤◌, ◌-◌, ◌==◌, false, None, if◌then◌else◌, List, length, slice_index_or}
use Rattle.tl_map_county.specs.Kept.{given}
use Rattle.tl_map_rules.specs.declared.entry.SidesEntry.{SidesEntry}
use Rattle.tl_map.specs.declared.kept.SidesRow.{SidesRow}
use Rattle.tl_map.specs.declared.kept.SidesMore.{SidesMore}

-- the record of a row that has no more
abbrev pub short_of : SidesRow → SidesEntry
short_of s = record {
  tlid = s.tlid;
  start_cell = None;
  end_cell = None;
  left = given s.has_left (record { cenid = s.left_cenid; polyid = s.left_polyid });
  right = given s.has_right (record { cenid = s.right_cenid; polyid = s.right_polyid });
}

-- the record of a row that has more
abbrev pub long_of : SidesRow → SidesMore → SidesEntry
long_of s m = record {
  tlid = s.tlid;
  start_cell = given m.has_start m.start_cell;
  end_cell = given m.has_end m.end_cell;
  left = given s.has_left (record { cenid = s.left_cenid; polyid = m.left_polyid });
  right = given s.has_right (record { cenid = s.right_cenid; polyid = m.right_polyid });
}

-- nothing
abbrev pub no_more : SidesMore
no_more = record { start_cell = 0; end_cell = 0; left_polyid = 0; right_polyid = 0; has_start = false; has_end = false }

-- the record of a row, by what is kept beside the rows
abbrev pub kept_in : List SidesMore → SidesRow → SidesEntry
kept_in more s = if s.more == 0 then short_of s else long_of s (slice_index_or more (s.more - 1) no_more)

-- what a row has more is kept
abbrev pub IsRow : List SidesMore → SidesRow → Type 0
IsRow more s = s.more ≤ length more
