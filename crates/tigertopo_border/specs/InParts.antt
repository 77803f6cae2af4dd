-- Texts that are read by themselves and as one, and the texts of their borders.
use Rattle.std.specs.Prelude.{◌≡◌, ℕ, ◌<◌, true, Some, List, [], ◌∷◌, length, map, slice_get}
use Rattle.tl_record.specs.declared.options.Options.{Options}
use Rattle.tl_record.specs.declared.options.TheConstants.{PLAIN}
use Rattle.tl_record.specs.Layout.{layout_with}
use Rattle.tl_record.specs.Records.{records_of, lines_read}
use Rattle.tl_record.specs.declared.record.Record.{Record}
use Rattle.tl_map.specs.Joined.Told.{joined_records}
use Rattle.tl_map_county.specs.TheMap.{TheMap}
use Rattle.tl_map_rules.specs.MapOf.{IsMapOf}
use Rattle.tl_map_rules.specs.Reading.{records_in, IsReadFrom}
use Rattle.tigertopo_files.specs.Joining.{joined}
use Rattle.tigertopo_border.specs.Spellable.{IsName}
use Rattle.tigertopo_border.specs.Border.{border_text}
use Rattle.tigertopo_border.specs.Parts.{all_records, HaveNoFaultButMany}

-- these options, with chains joined that two counties tell
abbrev pub joining : Options → Options
joining options = record options { join = true }

-- the records of a text's lines, each as it stands
abbrev pub line_records : Options → List ℕ → List Record
line_records options text = records_in (lines_read (layout_with options) text)

-- the records of all texts, joined
abbrev pub records_together : Options → List (List ℕ) → List Record
records_together options texts = joined_records (all_records (map (line_records options) texts))

-- the map is drawn by the records of all texts, joined, be they more than can be read as one
pub record IsDrawnTogether (options : Options) (texts : List (List ℕ)) (drawn : TheMap) : Type 0 where
  pub no_fault : HaveNoFaultButMany (records_together options texts)
  pub map : IsMapOf (records_together options texts) drawn

-- the map is read of all texts as one
abbrev pub IsReadTogether : Options → List (List ℕ) → TheMap → Type 0
IsReadTogether options texts read = IsReadFrom (records_of (layout_with (joining options)) (joined texts)) read

-- each text is read by itself as the part at its place
pub record AreReadApart (options : Options) (texts : List (List ℕ)) (parts : List TheMap) : Type 0 where
  pub many : length texts ≡ length parts
  pub each : (k : ℕ) (text : List ℕ) (part : TheMap) → slice_get texts k ≡ Some text → slice_get parts k ≡ Some part →
      IsReadFrom (records_of (layout_with options) text) part

-- parts without a polygon come last
abbrev pub EmptyComeLast : List TheMap → Type 0
EmptyComeLast parts =
    (k l : ℕ) (part later : TheMap) → k < l → slice_get parts k ≡ Some part → slice_get parts l ≡ Some later → 0 < length later.polygons → 0 < length part.polygons

-- the text of each part's border, with the name at its place
abbrev pub border_texts : List (List ℕ) → List TheMap → List (List ℕ)
border_texts [] parts = []
border_texts (name ∷ names) [] = []
border_texts (name ∷ names) (part ∷ parts) = border_text name part ∷ border_texts names parts

-- a name for the border of each part
pub record AreNames (names : List (List ℕ)) (parts : List TheMap) : Type 0 where
  pub many : length names ≡ length parts
  pub each : (k : ℕ) (name : List ℕ) → slice_get names k ≡ Some name → IsName name

-- the texts are read by themselves as the parts, and draw the map together; and the texts of the parts' borders draw the border
pub record IsDrawnInParts (options : Options) (texts names : List (List ℕ)) (parts : List TheMap) (drawn border : TheMap) : Type 0 where
  pub apart : AreReadApart options texts parts
  pub together : IsDrawnTogether options texts drawn
  pub empty_last : EmptyComeLast parts
  pub named : AreNames names parts
  pub borders : IsDrawnTogether PLAIN (border_texts names parts) border
