-- What the table says of commands.
use Rattle.std.proofs.Common.{◌≡◌, ◌≢◌, Bool, true, false, ◌||◌, List, [], ◌∷◌, Option, Some, None, refl, sym, ap, ap₂, ◌∙◌, map, codes}
use Rattle.std.specs.Prelude.{MatchOption, if◌then◌else◌}
use Rattle.std.specs.List.{list_any}
use Rattle.std.specs.Str.{bytes_eq}
use Rattle.std.specs.Cmp.Lexicographic.{bytes_decides}
use Rattle.clap.specs.Walk.{Rule, Text}
use Rattle.tigertopo_words.specs.Commands.{commands, name_of}
use Rattle.tigertopo_words.specs.Keeping.{named_among, rule_by, rule_for}
use Rattle.tigertopo_words.specs.Requests.{Request, faces_for, switch_for}
use Rattle.tigertopo_words.specs.declared.table.Argument.{Argument}
use Rattle.tigertopo_words.specs.declared.table.Kind.{Kind}
use Rattle.tigertopo_words.specs.declared.table.Kind.TheVariants.{Switch, Value, Needed, Placed, Several}
use Rattle.tigertopo_words.specs.declared.table.Named.{Named}
use Rattle.tigertopo_words.specs.declared.table.Named.TheVariants.{Show, Landmarks, Locate, Audit, Build, Check, Convert, Export, Draw, Border}
use Rattle.tigertopo_words.specs.declared.table.Row.{Row}

-- an argument's name is that of what clap is told of it
rule_id : (kind : Kind) (name : Text) → (rule_by kind name).id ≡ name
rule_id Switch name = refl
rule_id (Value shown) name = refl
rule_id (Needed shown) name = refl
rule_id (Placed shown) name = refl
rule_id (Several shown) name = refl

pub by_rules : (name : Text) (arguments : List Argument)
    → list_any (λ (a : Argument). bytes_eq name a.name.now) arguments ≡ list_any (λ (rule : Rule). bytes_eq name rule.id) (map rule_for arguments)
by_rules name [] = refl
by_rules name (a ∷ rest) = ap₂ ◌||◌ (ap (bytes_eq name) (sym (rule_id a.kind a.name.now))) (by_rules name rest)

-- a command that is found by its name has it
found_has : (name : Text) (rows : List Row) (named : Named) → map (λ (row : Row). row.name.now) rows ≡ map (λ (row : Row). name_of row.named) rows
    → named_among name rows ≡ Some named → name ≡ name_of named
found_has name [] named own is = absurd (cc is)
found_has name (row ∷ rest) named own is = go (bytes_eq name row.name.now) refl (found_has name rest named (cc own)) is
  where
    here : row.name.now ≡ name_of row.named
    here = cc own

    go : (b : Bool) → bytes_eq name row.name.now ≡ b → (named_among name rest ≡ Some named → name ≡ name_of named)
        → (if b then Some row.named else named_among name rest) ≡ Some named → name ≡ name_of named
    go true same others is = (bytes_decides name row.name.now).0 same ∙ here ∙ ap name_of (cc is)
    go false same others is = others is

-- and no other has one
none_has : (name : Text) (rows : List Row) → named_among name rows ≡ None → list_any (bytes_eq name) (map (λ (row : Row). row.name.now) rows) ≡ false
none_has name [] is = refl
none_has name (row ∷ rest) is = go (bytes_eq name row.name.now) (none_has name rest) is
  where
    go : (b : Bool) → (named_among name rest ≡ None → list_any (bytes_eq name) (map (λ (row : Row). row.name.now) rest) ≡ false) → (if b then Some row.named else named_among name rest) ≡ None
        → (b || list_any (bytes_eq name) (map (λ (row : Row). row.name.now) rest)) ≡ false
    go true behind is = absurd (cc is)
    go false behind is = behind is

-- each command is among them
in_table : (named : Named) → list_any (bytes_eq (name_of named)) (map name_of commands) ≡ true
in_table Show = refl
in_table Landmarks = refl
in_table Locate = refl
in_table Audit = refl
in_table Build = refl
in_table Check = refl
in_table Convert = refl
in_table Export = refl
in_table Draw = refl
in_table Border = refl

pub named_in_table : (name : Text) (found : Option Named) (rows : List Row) → map (λ (row : Row). row.name.now) rows ≡ map (λ (row : Row). name_of row.named) rows
    → map (λ (row : Row). row.name.now) rows ≡ map name_of commands → found ≡ named_among name rows
    → MatchOption found ((named : Named) → name ≢ name_of named) (λ named. name ≡ name_of named)
named_in_table name (Some named) rows own all is = found_has name rows named own (sym is)
named_in_table name None rows own all is = λ named same.
    let none = none_has name rows (sym is) in
    let some = ap (λ (names : List Text). list_any (bytes_eq name) names) all ∙ ap (λ (t : Text). list_any (bytes_eq t) (map name_of commands)) same ∙ in_table named in
    absurd (cc (none, some))

-- faces, of a command that makes no border
pub others_faced : (named : Named) (given : Request) → named ≢ Border → switch_for named given (codes "faces") ≡ faces_for named given
others_faced Show given other = refl
others_faced Landmarks given other = refl
others_faced Locate given other = refl
others_faced Audit given other = refl
others_faced Build given other = refl
others_faced Check given other = refl
others_faced Convert given other = refl
others_faced Export given other = refl
others_faced Draw given other = refl
others_faced Border given other = absurd (other refl)
