use Rattle.std.proofs.Common.{◌≡◌, Bool, true, None, map, string_bytes, subst, ◌∙◌}
use Rattle.tl_list.specs.Findings.{IsFoundIn}
use Rattle.tl_record.specs.Layout.{layout_with}
use Rattle.tigertopo_files.proofs.WorldLemmas.{does_so, does_then}
use Rattle.tigertopo_program.specs.Records.{StopsNever}
use Rattle.tigertopo_files.specs.Reading.{HaveLines, counted_names, text_under}
use Rattle.tigertopo_program.specs.Lists.Listed.{StopsList, asks_lines, wanted_of}
use Rattle.tigertopo_program.specs.Texts.{answer_status, answer_text}
use Rattle.tigertopo_program.proofs.ListLemmas.{answers_from, are_noted}
use Rattle.tigertopo_program.proofs.lists.listing.list.Goals as goal

pub returns : goal.returns
returns g c =
    let u = g.F.FileSystem.under c.args.files.now in
    let v = g.F.FileSystem.under c.find_all.new.files in
    let after = g.F.FileSystem.under c.tell_found.new.files in
    let l = g.F.FileSystem.log c.args.files.now in
    let m = g.F.FileSystem.log c.find_all.new.files in
    let q = g.F.FileSystem.log c.tell_found.new.files in
    let k = g.F.FileSystem.knows in
    let names = map string_bytes c.args.names.now in
    let asked = wanted_of names c.args.wanted in
    let known = text_under u names in
    let first = c.in_ok-found.ensures in
    let fails = StopsList c.args.options known asked in
    let asks = λ (is : asks_lines asked.form asked.made ≡ true). c.asks_lines-asks.ensures ∙ is in
    let reply = c.in_ok-found.field-0 in
    let found = reply.answer in
    let counts = reply.line_counts.items in
    let told = first.answered.answered in
    let counted = λ (is : asks_lines asked.form asked.made ≡ true). subst (λ (counts : Bool). HaveLines u (counted_names counts names) reply.line_counts.items) (asks is) first.answered.counted in
    does_then u v after l m q k names asked.made _ fails reply
    (does_so _ names None _ _ StopsNever fails (λ t so. so) (λ s never. absurd never) _ first)
    _ _ _ c.tell_found.result (c.tell_found.ensures known (subst (λ (skips : Bool). IsFoundIn c.args.options skips known found) c.is_skipping-skips.ensures told.are)
    (λ is. are_noted (layout_with c.args.options) u v names counts found first.keeps (counted is) (told.noted (asks is))))
    (λ answer. answers_from u v after l m q k c.args.options known asked (answer_status answer) (answer_text answer) first.keeps)
    (λ s why. why)

pub tell_found-requires-clause-why : goal.tell_found-requires-clause-why
tell_found-requires-clause-why g c =
    let found = c.in_ok-found.ensures in
    found.answered.answered.are.why
