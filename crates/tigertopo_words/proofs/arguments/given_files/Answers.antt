use Rattle.std.proofs.Common.{◌≡◌, ◌<◌, length, codes, ◌∙◌, rules, arith}
use Rattle.std.proofs.lemmas.Bool.Decides.{nat_tests}
use Rattle.clap.specs.Matches.{found_of}
use Rattle.clap.proofs.WalkLemmas.{raw_values-rows}
use Rattle.tigertopo_words.proofs.ArgumentLemmas.{none_given, some_given, empty_given, are_given}
use Rattle.tigertopo_words.proofs.arguments.given_files.Goals as goal

pub returns-in_default : goal.returns-in_default
returns-in_default c = λ names.
    let given = c.get_strs.ensures ∙ raw_values-rows (found_of c.args.found.now) (codes "files") in
    none_given c.get_strs.result _ names given c.in_default.is

pub returns-then-is_empty : goal.returns-then-is_empty
returns-then-is_empty c = λ names.
    let given = c.get_strs.ensures ∙ raw_values-rows (found_of c.args.found.now) (codes "files") in
    let none : length c.in-Some.names.now ≡ 0 = search (rules, arith, nat_tests) in
    empty_given _ c.in-Some.names.now names (some_given c.get_strs.result _ c.in-Some.names given c.in-Some.is) none

pub returns : goal.returns
returns c =
    let given = c.get_strs.ensures ∙ raw_values-rows (found_of c.args.found.now) (codes "files") in
    let some : 0 < length c.in-Some.names.now = search (rules, arith, nat_tests) in
    are_given _ c.in-Some.names.now c.in_ok-copied.field-0.items (some_given c.get_strs.result _ c.in-Some.names given c.in-Some.is) c.in_ok-copied.ensures some
