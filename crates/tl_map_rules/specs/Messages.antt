-- What is printed of a fault of the records and of each stop of reading them.
use Rattle.std.specs.Prelude.{ℕ, List, [], ◌++◌, codes, decimal, if◌then◌else◌}
use Rattle.tl_record.specs.Messages.{refusal_text}
use Rattle.tl_record_key.specs.KeyText.{key_text}
use Rattle.tl_map_rules.specs.declared.fault.Limited.{Limited}
use Rattle.tl_map_rules.specs.declared.fault.Limited.TheVariants.{Chains, Segments, Polygons, Landmarks}
use Rattle.tl_map_rules.specs.declared.fault.RecordFault.{RecordFault}
use Rattle.tl_map_rules.specs.declared.fault.MapStop.{MapStop}
use Rattle.tl_map_rules.specs.declared.fault.MapStop.TheVariants.{Refused, Device, Memory, Fault, NoRecords}
use Rattle.tl_map_rules.specs.declared.lacking.Lacking.{Lacking}
use Rattle.tl_map_rules.specs.declared.rows.AboutRecords.{AboutRecords}
use Rattle.tl_map_rules.specs.declared.rows.AboutRecords.TheVariants.{Tlid, Polygon, TlidPolygon, Land, PolygonLand, Limit, Types}
use Rattle.tl_map_rules.specs.Rows.{Row, record_row, lacking_row}

-- what there are too many of
abbrev pub limited_text : Limited → List ℕ
limited_text Chains = codes "chains"
limited_text Segments = codes "segments"
limited_text Polygons = codes "polygons"
limited_text Landmarks = codes "landmarks"

-- the types of which there is no record
abbrev pub types_text : Lacking → List ℕ
types_text l = (if l.chains then codes " 1" else []) ++ ((if l.sides then codes " I" else []) ++ (if l.polygons then codes " P" else []))

-- what a fault of the records is about, behind its name
abbrev pub about_records_text : AboutRecords → List ℕ
about_records_text (Tlid t records) = codes " tlid " ++ decimal t
about_records_text (Polygon k) = codes " polygon " ++ key_text k
about_records_text (TlidPolygon t k) = codes " tlid " ++ decimal t ++ codes " polygon " ++ key_text k
about_records_text (Land n) = codes " land " ++ decimal n
about_records_text (PolygonLand k n) = codes " polygon " ++ key_text k ++ codes " land " ++ decimal n
about_records_text (Limit what) = codes " " ++ limited_text what
about_records_text (Types lacking) = codes " types" ++ types_text lacking

-- the line of a fault of the records
abbrev pub row_text : Row AboutRecords → List ℕ
row_text row = codes "map fault " ++ row.0 ++ codes " " ++ row.1 ++ about_records_text row.2

abbrev pub record_fault_text : RecordFault → List ℕ
record_fault_text fault = row_text (record_row fault)

abbrev pub lacking_text : Lacking → List ℕ
lacking_text lacking = row_text (lacking_row lacking)

-- why no map is handed out
abbrev pub map_stop_text : MapStop → List ℕ
map_stop_text (Refused line cause) = refusal_text line cause
map_stop_text Device = codes "stopped Device"
map_stop_text Memory = codes "stopped Memory"
map_stop_text (Fault fault) = record_fault_text fault
map_stop_text (NoRecords lacking) = lacking_text lacking
