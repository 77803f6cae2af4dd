use Rattle.std.proofs.Common.{map, string_bytes, sym, ◌∙◌}
use Rattle.tl_record.specs.Layout.{layout_with}
use Rattle.tl_list.specs.Keeping.Noting.{bytes_of}
use Rattle.tigertopo_program.specs.Lists.Listed.{most_of, wanted_of}
use Rattle.tigertopo_program.proofs.ListLemmas.{plain_refused, placed_refused}
use Rattle.tigertopo_program.proofs.lists.refused.tell_all_refused.Goals as goal

pub returns-then-not-has_places-clause-answer : goal.returns-then-not-has_places-clause-answer
returns-then-not-has_places-clause-answer c = λ under are.
    let asked = wanted_of (map string_bytes c.args.names.now) c.args.wanted in
    rw c.most_of-most.ensures (plain_refused (layout_with c.args.options) under asked.names asked.form (most_of asked.told) c.args.list (sym c.has_places.ensures ∙ c.if-not-has_places.true))

pub returns-clause-answer : goal.returns-clause-answer
returns-clause-answer c =
    let asked = wanted_of (map string_bytes c.args.names.now) c.args.wanted in
    placed_refused (layout_with c.args.options) asked c.args.list c.args.counts.now (bytes_of c.args.fronts.now) c.in_ok-text.text (sym c.has_places.ensures ∙ c.if-not-has_places.false)
    (rw (← c.most_of-most.ensures, ← c.as_slice.ensures.value) c.in_ok-text.ensures.bytes)
