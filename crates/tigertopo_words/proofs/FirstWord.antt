-- Words of which the first shows that they are no use of a command.
use Rattle.std.proofs.Common.{◌≡◌, ◌⊎◌, inl, inr, Bool, true, false, ◌||◌, ◌&&◌, List, [], ◌∷◌, Option, None, refl, sym, ap, subst, ◌∙◌, map}
use Rattle.std.specs.Prelude.{find, option_and_then, Result, Ok, Err, IsErrAnd, IfErr}
use Rattle.std.specs.List.{list_any}
use Rattle.std.specs.Str.{bytes_eq}
use Rattle.std.proofs.lemmas.Cmp.{nat_list_eq_equiv}
use Rattle.clap.specs.Lexer.{strip_byte, long_of, long_of_rest, short_of, short_of_rest}
use Rattle.clap.specs.Walk.{Text, Names, answers_to, arg_by_index, nothing_held, stop_after, walk_from}
use Rattle.clap.specs.Simple.{App, Shape, argument_words, built, is_simple, names_of}
use Rattle.clap.specs.Takes.{takes, entered_passes, turn_passes, walk_passes}
use Rattle.clap.specs.Faults.{fault_of, turn_fault, walk_fault}
use Rattle.clap.specs.declared.error.kind.ErrorKind.TheVariants.{UnknownArgument, InvalidSubcommand, MissingSubcommand}
use Rattle.clap.proofs.OnLiterals.{clap_on_literals}
use Rattle.tigertopo_words.specs.Commands.{command_line}
use Rattle.tigertopo_words.specs.CommandLine.{AreAUse, HasMistake, HasAnswer, StopsPlanning, first_names, is_option, may_be_use}
use Rattle.tigertopo_words.specs.declared.asked.Command.{Command}
use Rattle.tigertopo_words.specs.declared.stop.WordsStop.{WordsStop}
use Rattle.tigertopo_words.specs.declared.stop.WordsStop.TheVariants.{Memory}

-- neither of two tests holds
neither : (a b : Bool) → (a || b) ≡ false → (a ≡ false) × (b ≡ false)
neither true b e = absurd (cc e)
neither false b e = (refl, e)

last_fails : (a b : Bool) → (a && (b && false)) ≡ false
last_fails true true = refl
last_fails true false = refl
last_fails false b = refl

-- a word that is none of the names names no command
abbrev labels : List Text → Names
labels = map (λ name. (name, []))

no_command : (word : Text) (names : List Text) → list_any (bytes_eq word) names ≡ false → find (answers_to word) (labels names) ≡ None
no_command word [] e = refl
no_command word (name ∷ rest) e =
    let none = neither (bytes_eq word name) (list_any (bytes_eq word) rest) e in
    rw (nat_list_eq_equiv.symm name word ∙ none.0) (no_command word rest none.1)

-- a word that doesn't begin with a hyphen is not two, and neither a long option nor short ones
no_hyphen : (word : Text) → is_option word ≡ false → strip_byte 45 word ≡ None
no_hyphen [] e = refl
no_hyphen (first ∷ rest) e = rw e refl

not_two : (word : Text) → is_option word ≡ false → bytes_eq word (45 ∷ 45 ∷ []) ≡ false
not_two [] e = refl
not_two (first ∷ rest) e = rw e refl

no_long : (word : Text) → strip_byte 45 word ≡ None → long_of word ≡ None
no_long word e = ap (λ (rest : Option Text). option_and_then long_of_rest (option_and_then (strip_byte 45) rest)) e

no_short : (word : Text) → strip_byte 45 word ≡ None → short_of word ≡ None
no_short word e = ap (option_and_then short_of_rest) e

module _ (s : Shape) (names : Names) (word : Text) (no_name : find (answers_to word) names ≡ None) (no_option : is_option word ≡ false) (no_place : arg_by_index s.rules 1 ≡ None) where
  turn_refuses : turn_passes s names (walk_from nothing_held) word ≡ false
  turn_refuses =
      let none = no_hyphen word no_option in
      rw (no_name, not_two word no_option, no_long word none, no_short word none, no_place) refl

  turn_strays : s.is_leaf ≡ false → turn_fault s names (walk_from nothing_held) word ≡ UnknownArgument ∷ InvalidSubcommand ∷ []
  turn_strays subs =
      let none = no_hyphen word no_option in
      rw (no_name, not_two word no_option, no_long word none, no_short word none, no_place, subs) refl

  walk_refuses : (rest : List Text) → walk_passes s names (walk_from nothing_held) (word ∷ rest) ≡ false
  unfolding walk_passes
  walk_refuses rest = rw turn_refuses refl

  walk_strays : (rest : List Text) → s.is_leaf ≡ false → walk_fault s names (walk_from nothing_held) (word ∷ rest) ≡ UnknownArgument ∷ InvalidSubcommand ∷ []
  unfolding walk_fault
  walk_strays rest subs = rw (turn_strays subs) refl

-- what the program has
named : names_of (built command_line) ≡ labels first_names
unfolding clap_on_literals
named = refl

no_place : arg_by_index (built command_line).top.rules 1 ≡ None
unfolding clap_on_literals
no_place = refl

has_commands : (built command_line).top.is_leaf ≡ false
unfolding clap_on_literals
has_commands = refl

no_words : takes command_line [] ≡ false
unfolding clap_on_literals
no_words = refl

no_words_fault : fault_of command_line [] ≡ MissingSubcommand ∷ []
unfolding clap_on_literals
no_words_fault = refl

-- words whose first is neither an option nor a name
no_name : (word : Text) → list_any (bytes_eq word) first_names ≡ false → find (answers_to word) (names_of (built command_line)) ≡ None
no_name word e = subst (λ (names : Names). find (answers_to word) names ≡ None) (sym named) (no_command word first_names e)

no_walk : (a : App) (words : List Text) → walk_passes (built a).top (names_of (built a)) (walk_from nothing_held) (argument_words a words) ≡ false → takes a words ≡ false
no_walk a words e = rw e (last_fails (is_simple a) (entered_passes (built a) (stop_after (built a).top.rules (names_of (built a)) (argument_words a words))))

not_taken : (word : Text) (rest : List Text) → is_option word ≡ false → list_any (bytes_eq word) first_names ≡ false → takes command_line (word ∷ rest) ≡ false
not_taken word rest no_option other =
    no_walk command_line (word ∷ rest) (walk_refuses (built command_line).top (names_of (built command_line)) word (no_name word other) no_option no_place rest)

strays : (word : Text) (rest : List Text) → is_option word ≡ false → list_any (bytes_eq word) first_names ≡ false
    → fault_of command_line (word ∷ rest) ≡ UnknownArgument ∷ InvalidSubcommand ∷ []
strays word rest no_option other =
    rw (walk_strays (built command_line).top (names_of (built command_line)) word (no_name word other) no_option no_place rest has_commands) refl

-- what words are that can't be a use, by the first of them
no_use_taken : (words : List Text) → may_be_use words ≡ false → takes command_line words ≡ false
no_use_taken [] e = no_words
no_use_taken (word ∷ rest) e =
    let none = neither (is_option word) (list_any (bytes_eq word) first_names) e in
    not_taken word rest none.0 none.1

no_use_mistake : (words : List Text) → may_be_use words ≡ false → HasMistake (fault_of command_line words)
no_use_mistake [] e = rw no_words_fault (MissingSubcommand, inl refl, λ answer. elim answer [ inl h ↦ cc h | inr v ↦ cc v ])
no_use_mistake (word ∷ rest) e =
    let none = neither (is_option word) (list_any (bytes_eq word) first_names) e in
    rw (strays word rest none.0 none.1) (UnknownArgument, inl refl, λ answer. elim answer [ inl h ↦ cc h | inr v ↦ cc v ])

no_use_answer : (words : List Text) → may_be_use words ≡ false → HasAnswer (fault_of command_line words) → ⊥
no_use_answer [] e wish = one (subst HasAnswer no_words_fault wish)
  where
    one : HasAnswer (MissingSubcommand ∷ []) → ⊥
    one (kind, inl is, inl help) = cc (is, help)
    one (kind, inl is, inr version) = cc (is, version)
    one (kind, inr none, answer) = none
no_use_answer (word ∷ rest) e wish =
    let none = neither (is_option word) (list_any (bytes_eq word) first_names) e in
    two (subst HasAnswer (strays word rest none.0 none.1) wish)
  where
    two : HasAnswer (UnknownArgument ∷ InvalidSubcommand ∷ []) → ⊥
    two (kind, inl is, inl help) = cc (is, help)
    two (kind, inl is, inr version) = cc (is, version)
    two (kind, inr (inl is), inl help) = cc (is, help)
    two (kind, inr (inl is), inr version) = cc (is, version)
    two (kind, inr (inr none), answer) = none

-- words that can't be a use are no use, and a mistake
pub no_use : (words : List Text) → may_be_use words ≡ false → (AreAUse words → ⊥) × (HasMistake (fault_of command_line words) ⊎ (fault_of command_line words ≡ []))
no_use words e = ((λ use_of. cc (use_of.taken, no_use_taken words e)), inl (no_use_mistake words e))

-- words that clap takes may be a use, and so may those that wish for help
pub taken_may : (words : List Text) → fault_of command_line words ≡ [] → may_be_use words ≡ true
taken_may words right = go (may_be_use words) refl
  where
    go : (b : Bool) → may_be_use words ≡ b → b ≡ true
    go true is = refl
    go false is = absurd (subst HasMistake right (no_use_mistake words is)).1

pub wish_may : (words : List Text) → HasAnswer (fault_of command_line words) → may_be_use words ≡ true
wish_may words wish = go (may_be_use words) refl
  where
    go : (b : Bool) → may_be_use words ≡ b → b ≡ true
    go true is = refl
    go false is = absurd (no_use_answer words is wish)

-- a want of memory behind the words
pub stops_may : (stopped : Result Command WordsStop) (words : List Text) → IsErrAnd stopped (λ stop. stop ≡ Memory) → may_be_use words ≡ true → IfErr stopped (StopsPlanning words)
stops_may (Ok command) words is may = tt
stops_may (Err stop) words is may = subst (StopsPlanning words) (sym is) may
