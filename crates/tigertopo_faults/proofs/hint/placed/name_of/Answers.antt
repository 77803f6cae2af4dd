use Rattle.std.proofs.Common.{◌≤◌, [], length, map, sym, ◌∙◌, arith, string_bytes}
use Rattle.std.proofs.lemmas.List.{get_or_past, length-map}
use borrow.Author.Tests.{ltb-true, ltb-false}
use Rattle.tigertopo_faults.proofs.HintLemmas.HintLemmas.{named}
use Rattle.tigertopo_faults.proofs.hint.placed.name_of.Goals as goal

pub returns-in-Some : goal.returns-in-Some
returns-in-Some c =
    let within = ltb-true _ _ (sym c.in-Some.ensures.lookup.0) in
    c.as_str.ensures.value ∙ sym (named string_bytes c.args.names.now c.args.number c.in-Some.name.now within c.in-Some.ensures.lookup.1)

pub returns-in-None : goal.returns-in-None
returns-in-None c =
    let past = ltb-false _ _ (sym c.in-None.ensures.lookup.0) in
    let names = map string_bytes c.args.names.now in
    let all : length names ≤ c.args.number = omega (arith, length-map c.args.names.now string_bytes, past) in
    sym (get_or_past names c.args.number [] all)
