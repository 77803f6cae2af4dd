-- What is exported of a map, and what is answered then.
--
-- `w` is what became of files, `asked` what is exported, and `known` the text of the records, where it is known.
use Rattle.std.specs.Prelude.{◌≡◌, ◌⊎◌, ℕ, List, Option, Some, None, length, slice_get, ⊤}
use Rattle.tl_record.specs.declared.layout.Layout.{Layout}
use Rattle.tl_map_county.specs.TheMap.{TheMap}
use Rattle.tigertopo_files.specs.Files.{StandsUnder}
use Rattle.tigertopo_files.specs.World.{World, Unmade}
use Rattle.tl_cert_output.specs.Writing.{line_of}
use Rattle.tl_check_sides.specs.Walks.{AreWalks}
use Rattle.tl_check_verdict.specs.Sound.{IsSound}
use Rattle.tigertopo_words.specs.declared.layer.Layer.{Layer}
use Rattle.tigertopo_pictures.specs.Geojson.Holes.{ring_count}
use Rattle.tigertopo_pictures.specs.Geojson.Rings.{county_text, county_text_with}
use Rattle.tigertopo_program.specs.declared.answer.Exported.{Exported}
use Rattle.tigertopo_program.specs.declared.answer.Answer.TheVariants.{Exported as Export}
use Rattle.tigertopo_program.specs.declared.answer.Answer.{Answer}
use Rattle.tigertopo_program.specs.Answers.{TellsRecordFault}
use Rattle.tigertopo_program.specs.Texts.{exported_text, exported_status}
use Rattle.tigertopo_program.specs.Records.{IsMapOf}

-- what is exported: to a file of which name, one layer of the map or all, and the name that stands for the records' files
pub record Asked : Type 0 where
  pub name : List ℕ
  pub layer : Option Layer
  pub file : Option (List ℕ)

-- for the records' files stands the name of the first
abbrev pub asked_of : (names : List (List ℕ)) → (name : List ℕ) → Option Layer → Asked
asked_of names name layer = record { name = name; layer = layer; file = slice_get names 0 }

-- the numbers that are told of a map with so many rings
abbrev pub counts_of : TheMap → Option ℕ → Exported
counts_of m rings = record { chains = length m.chains; polygons = length m.polygons; rings = rings }

-- the text of a map that isn't sound: its chains and its polygons' points
pub record IsPlain (asked : Asked) (m : TheMap) (rings : Option ℕ) (text : List ℕ) : Type 0 where
  pub faulty : ¬ IsSound m
  pub none : rings ≡ None
  pub is : text ≡ county_text asked.file asked.layer m

-- the text of a sound map: the polygons stand behind these, with rings of walks that are the map's, and so many rings
pub record IsWhole (asked : Asked) (m : TheMap) (rings : Option ℕ) (text : List ℕ) : Type 0 where
  pub sound : IsSound m
  pub walks : List (List ℕ)
  pub are : AreWalks m.chains walks
  pub some : rings ≡ Some (ring_count m.chains walks)
  pub is : text ≡ county_text_with asked.file asked.layer m walks

-- the text that is exported of a map with so many rings stands under the name
pub record IsExported (w : World) (asked : Asked) (m : TheMap) (rings : Option ℕ) : Type 0 where
  pub text : List ℕ
  pub is : IsPlain asked m rings text ⊎ IsWhole asked m rings text
  pub kept : StandsUnder w.after asked.name text

-- so a map is answered, by its line
pub record IsExportedOf (w : World) (asked : Asked) (m : TheMap) (answer : Answer) : Type 0 where
  pub rings : Option ℕ
  pub exported : IsExported w asked m rings
  pub is : answer ≡ (Export (counts_of m rings))

-- the line of the records' map, which was exported, and with the status 1 that it isn't sound
pub record TellsExport (w : World) (layout : Layout) (known : Option (List ℕ)) (asked : Asked) (status : ℕ) (text : List ℕ) : Type 0 where
  pub map : TheMap
  pub drawn : IsMapOf layout known map
  pub rings : Option ℕ
  pub exported : IsExported w asked map rings
  pub is : status ≡ exported_status rings
  pub line : text ≡ line_of (exported_text (length map.chains) (length map.polygons) rings)

-- what `export` answers: that, or the fault of the records, and then no file was made
abbrev pub ExportAnswers : World → Layout → (known : Option (List ℕ)) → Asked → ℕ → List ℕ → Type 0
ExportAnswers w layout known asked status text =
    TellsExport w layout known asked status text ⊎ (TellsRecordFault layout known (λ fault. ⊤) status text × Unmade w (Some asked.name))
