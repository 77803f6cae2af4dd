-- Faults as one FeatureCollection.
use Rattle.std.specs.Prelude.{ℕ, Bool, ◌==◌, List, [], ◌∷◌, ◌++◌, drop, Option, None, Some, option_to_list, codes, decimal, length, slice_get, if◌then◌else◌}
use Rattle.std.specs.Option.{option_map_or}
use Rattle.std.specs.List.{flat_map, list_any}
use Rattle.tl_map_county.specs.declared.polygons.Polygon.{Polygon}
use Rattle.tl_map_county.specs.TheMap.{TheMap, MapChain}
use Rattle.tl_check_verdict.specs.declared.fault.MapFault.{MapFault}
use Rattle.tl_check_verdict.specs.declared.rows.About.{About}
use Rattle.tl_map_rules.specs.Rows.{Row}
use Rattle.tl_check_verdict.specs.Rows.{row}
use Rattle.tl_check_verdict.specs.Messages.{row_text}
use Rattle.tigertopo_faults.specs.declared.records.line.RecordLine.{RecordLine}
use Rattle.tigertopo_faults.specs.declared.records.subject.Subject.{Subject}
use Rattle.tigertopo_faults.specs.Records.SpokenOf.{chains_of}
use Rattle.tl_geom.specs.declared.rational.Rational.{Rational}
use Rattle.tigertopo_faults.specs.Lines.Places.{place_at}
use Rattle.tigertopo_words.specs.Json.{string_text}
use Rattle.tigertopo_pictures.specs.Geojson.Strings.{key_string}
use Rattle.tigertopo_pictures.specs.Geojson.Features.{features_below, chain_text, collection_opening, collection_closing}
use Rattle.tigertopo_pictures.specs.Items.{separated}
use Rattle.tigertopo_faults.specs.Geojson.Named.{listed, tlids_of, keys_of, land_of}
use Rattle.tigertopo_faults.specs.Geojson.Places.{geometry_text, exact_text}
use Rattle.tigertopo_faults.specs.Geojson.Records.{spoken_lines, records_text}

-- the code, the name and the text of a fault
unfoldable pub words_text : Row About → List ℕ
words_text row =
    codes "\"code\":" ++ string_text row.0 ++ codes ",\"name\":" ++ string_text row.1
    ++ codes ",\"fault\":" ++ string_text (row_text row)

-- the TLIDs, the keys and the LAND that a fault names
unfoldable pub names_text : List MapChain → About → List ℕ
names_text chains about =
    codes "\"tlids\":[" ++ separated decimal (listed (tlids_of chains about))
    ++ codes "],\"polygons\":[" ++ separated key_string (listed (keys_of about))
    ++ codes "],\"landmarks\":[" ++ separated decimal (option_to_list (land_of about)) ++ codes "]"

-- a fault: the point where it lies, its words, what it names and the records that it speaks of
unfoldable pub fault_text : List (List ℕ) → List ℕ → List MapChain → (Subject → List RecordLine) → Option Rational → MapFault → List ℕ
fault_text names counts chains about at fault =
    codes "{\"type\":\"Feature\",\"geometry\":" ++ geometry_text at
    ++ codes ",\"properties\":{" ++ words_text (row fault)
    ++ codes ",\"at\":" ++ exact_text at
    ++ codes "," ++ names_text chains (row fault).2 ++ records_text names counts (spoken_lines chains about (row fault).2) ++ codes "}}"

-- the fault with this number, at the place with it
abbrev pub fault_feature : List (List ℕ) → List ℕ → List MapChain → (Subject → List RecordLine) → List (Option Rational) → List MapFault → ℕ → List ℕ
fault_feature names counts chains about places faults n = option_map_or (fault_text names counts chains about (place_at places n)) (slice_get faults n) []

-- the TLIDs that faults name
abbrev pub named_tlids : List MapChain → List MapFault → List ℕ
named_tlids chains faults = flat_map (λ fault. listed (tlids_of chains (row fault).2)) faults

-- is a TLID one of these
abbrev pub is_among : ℕ → List ℕ → Bool
is_among tlid tlids = list_any (λ t. t == tlid) tlids

-- a chain behind another feature, where its TLID is one of these
abbrev pub named_chain : List Polygon → List ℕ → MapChain → List ℕ
named_chain polygons tlids chain =
    if is_among chain.tlid tlids then codes ",\n" ++ chain_text None polygons chain.tlid chain.points chain.left chain.right else []

-- the chains of a map that have these TLIDs, by rising number
abbrev pub chains_text : Option TheMap → List ℕ → List ℕ
chains_text None tlids = []
chains_text (Some m) tlids = flat_map (named_chain m.polygons tlids) m.chains

-- the end of the collection, which says how many polygons are touched, where some are
abbrev pub closing_text : ℕ → List ℕ
closing_text touched = if touched == 0 then collection_closing else codes "\n],\"touched\":" ++ decimal touched ++ codes "}\n"

-- features that each have a comma in front, behind those of faults; where there is no fault, the first has none
abbrev pub behind_faults : List MapFault → List ℕ → List ℕ
behind_faults [] features = drop 1 features
behind_faults (fault ∷ rest) features = features

-- all faults, behind them the chains that they name, and last the features of refused lines, each with a comma in front; where there is no
-- fault, there is no such chain
unfoldable pub faults_text : List (List ℕ) → List ℕ → Option TheMap → (Subject → List RecordLine) → List (Option Rational) → List MapFault → ℕ → List ℕ → List ℕ
faults_text names counts drawn about places faults touched refused =
    collection_opening ++ features_below 0 (fault_feature names counts (chains_of drawn) about places faults) (length faults)
    ++ chains_text drawn (named_tlids (chains_of drawn) faults) ++ behind_faults faults refused ++ closing_text touched
