-- The commands that the program tells `clap` of. How a simple command's words are read is clap's own definition.
use Rattle.std.specs.Prelude.{Bool, List, [], ◌∷◌, true, Some, codes, map}
use Rattle.std.specs.List.{list_any}
use Rattle.std.specs.Str.{bytes_eq}
use Rattle.clap.specs.Lexer.{usize_max}
use Rattle.clap.specs.Simple.{App, new_app, new_rule, with_rule, with_subcommand, on_top}
use Rattle.clap.specs.Walk.{Rule, Text}
use Rattle.clap.specs.declared.builder.action.ArgAction.TheVariants.{Append, SetTrue}
use Rattle.tigertopo_words.specs.declared.table.Named.{Named}
use Rattle.tigertopo_words.specs.declared.table.Named.TheVariants.{Show, Landmarks, Locate, Audit, Build, Check, Convert, Export, Draw, Border}

-- an option with no word, which is on where it is given
abbrev pub switch : Text → Rule
switch id = record (new_rule id) { long = Some id; action = Some SetTrue }

-- an option with one word
abbrev pub value : Text → Rule
value id = record (new_rule id) { long = Some id; value_names = 1 }

-- an option with one word, which has to be given
abbrev pub needed : Text → Rule
needed id = record (value id) { required = true }

-- one word by its place, which has to be given
abbrev pub placed : Text → Rule
placed id = record (new_rule id) { value_names = 1; required = true }

-- one word or more, behind all others
abbrev pub several : Text → Rule
several id = record (placed id) { action = Some Append; range = Some (record { start_inclusive = 1; end_inclusive = usize_max }) }

-- [--released] FILES..: type I lines have the columns of the files that the Census Bureau released, and the names of record files
abbrev pub on_released : List Rule
on_released = switch (codes "released") ∷ several (codes "files") ∷ []

-- [--join]: chains that two counties tell are one
abbrev pub on_records : List Rule
on_records = switch (codes "join") ∷ on_released

-- [--faces] [--zero-cells]: faces have to agree too, and the ids of zero-cells are read
abbrev pub on_a_map : List Rule
on_a_map = switch (codes "faces") ∷ switch (codes "zero-cells") ∷ on_records

-- [--progress] [--complete]: how far reading is is shown, and there has to be a record of each of the types 1, I and P
abbrev pub deciding : List Rule
deciding = switch (codes "progress") ∷ switch (codes "complete") ∷ on_a_map

-- a command of the program: its name, and its arguments in the order of its help
abbrev pub row_of : Named → Text × List Rule
row_of Show = (codes "show", on_records)
row_of Landmarks = (codes "landmarks", on_released)
row_of Locate = (codes "locate", switch (codes "join") ∷ switch (codes "released") ∷ placed (codes "point") ∷ several (codes "files") ∷ [])
row_of Audit = (
  codes "audit",
  switch (codes "all") ∷ value (codes "most") ∷ switch (codes "skip-refused") ∷ switch (codes "where") ∷ switch (codes "json")
      ∷ value (codes "geojson") ∷ deciding,
)
row_of Build = (codes "build", needed (codes "out") ∷ deciding)
row_of Check = (codes "check", needed (codes "cert") ∷ value (codes "tests") ∷ deciding)
row_of Convert = (codes "convert", placed (codes "cert") ∷ placed (codes "out") ∷ [])
row_of Export = (codes "export", needed (codes "geojson") ∷ value (codes "layer") ∷ on_records)
row_of Draw = (codes "draw", needed (codes "out") ∷ value (codes "at") ∷ value (codes "width") ∷ switch (codes "faults") ∷ on_a_map)
row_of Border = (codes "border", needed (codes "name") ∷ needed (codes "out") ∷ switch (codes "complete") ∷ on_records)

-- all of them, in the order of the program's help
abbrev pub commands : List Named
commands = Show ∷ Landmarks ∷ Locate ∷ Audit ∷ Build ∷ Check ∷ Convert ∷ Export ∷ Draw ∷ Border ∷ []

-- the name of a command
abbrev pub name_of : Named → Text
name_of named = (row_of named).0

-- has a command an argument of this name
abbrev pub has_argument : Named → Text → Bool
has_argument named name = list_any (λ (rule : Rule). bytes_eq name rule.id) (row_of named).1

-- a command with these arguments more
abbrev pub with_rules : App → List Rule → App
with_rules app [] = app
with_rules app (rule ∷ rest) = with_rules (with_rule app rule) rest

-- a program with these commands more
abbrev pub with_commands : App → List (Text × List Rule) → App
with_commands app [] = app
with_commands app (row ∷ rest) = with_commands (with_subcommand app (with_rules (new_app row.0) row.1).top) rest

-- the program, whose words begin behind its own name, which has a version, and which wants a command
abbrev pub program : App
program =
    on_top (λ top. record top { no_binary_name = true; has_version = true; subcommand_required = true })
    (new_app (codes "tigertopo"))

abbrev pub command_line : App
command_line = with_commands program (map row_of commands)
