-- What is answered where a border is made.
--
-- `w` is what became of files, `wanted` what is made, and `known` the text of the records, where it is known.
use Rattle.std.specs.Prelude.{◌≡◌, ◌⊎◌, ℕ, Bool, List, Option, Some}
use Rattle.tl_record.specs.declared.options.Options.{Options}
use Rattle.tl_record.specs.Layout.{layout_with}
use Rattle.tl_map_county.specs.TheMap.{TheMap}
use Rattle.tl_cert_output.specs.Writing.{line_of}
use Rattle.tl_check_verdict.specs.declared.fault.MapFault.{MapFault as TheMapFault}
use Rattle.tl_check_verdict.specs.declared.verdict.Verdict.TheVariants.{MapFault}
use Rattle.tl_check_verdict.specs.Sound.{IsSoundFor}
use Rattle.tl_check_verdict.specs.Truth.{IsTrueOfMapFor}
use Rattle.tigertopo_files.specs.Files.{StandsUnder}
use Rattle.tigertopo_files.specs.World.{World, Unmade}
use Rattle.tigertopo_border.specs.Border.{border_text, chain_count, segment_count}
use Rattle.tigertopo_program.specs.declared.answer.Bordered.{Bordered as Numbers}
use Rattle.tigertopo_program.specs.declared.answer.Answer.TheVariants.{Bordered, Verdict}
use Rattle.tigertopo_program.specs.declared.answer.Answer.{Answer}
use Rattle.tigertopo_program.specs.Texts.{bordered_text}
use Rattle.tigertopo_program.specs.Records.{IsMapOf}
use Rattle.tigertopo_program.specs.Building.{TellsFault}

-- what is made: a file of this name, of a border whose one polygon has this CENID
pub record Wanted : Type 0 where
  pub name : List ℕ
  pub cenid : List ℕ

-- the numbers of a map's border
abbrev pub numbers_of : TheMap → Numbers
numbers_of m = record { chains = chain_count m; segments = segment_count m }

-- the map keeps what is asked of it, and the text of its border stands under the name
pub record IsBordered (w : World) (wanted : Wanted) (faces : Bool) (m : TheMap) : Type 0 where
  pub sound : IsSoundFor faces m
  pub kept : StandsUnder w.after wanted.name (border_text wanted.cenid m)

-- so a map is answered, by its border's line; or by that of a fault that is true of it, and then no file was made
abbrev pub IsBorderAnswerOf : World → Wanted → (faces : Bool) → TheMap → Answer → Type 0
IsBorderAnswerOf w wanted faces m answer =
    (IsBordered w wanted faces m × (answer ≡ Bordered (numbers_of m)))
    ⊎ ((fault : TheMapFault) × IsTrueOfMapFor faces m fault × Unmade w (Some wanted.name) × (answer ≡ Verdict (MapFault fault)))

-- with the status 0 the line of the border of the records' map, which was made
pub record TellsBorder (w : World) (options : Options) (known : Option (List ℕ)) (wanted : Wanted) (status : ℕ) (text : List ℕ) : Type 0 where
  pub map : TheMap
  pub drawn : IsMapOf (layout_with options) known map
  pub bordered : IsBordered w wanted options.faces map
  pub is : status ≡ 0
  pub line : text ≡ line_of (bordered_text (chain_count map) (segment_count map))

-- what `border` answers: that, or with the status 1 the line of a fault that is true of the records or of their map, and then no file was
-- made
abbrev pub BorderAnswers : World → Options → (known : Option (List ℕ)) → Wanted → ℕ → List ℕ → Type 0
BorderAnswers w options known wanted status text =
    TellsBorder w options known wanted status text ⊎ TellsFault w options known wanted.name status text
