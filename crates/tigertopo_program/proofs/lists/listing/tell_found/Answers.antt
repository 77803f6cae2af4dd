use Rattle.std.proofs.Common.{◌≡◌, [], true, map, string_bytes, subst}
use Rattle.std.proofs.lemmas.Option.{IfSome_then}
use Rattle.tl_record.specs.Layout.{layout_with}
use Rattle.tl_list.specs.Listings.{IsListingOf}
use Rattle.tl_list_text.specs.declared.listing.Listing.{Listing}
use Rattle.tl_list.specs.Findings.{IsLeft, SaysWhy}
use Rattle.tigertopo_files.proofs.WorldLemmas.{does_so}
use Rattle.tigertopo_program.specs.Records.{StopsNever}
use Rattle.tigertopo_program.specs.Lists.Listed.{asks_lines, is_skipping, wanted_of}
use Rattle.tigertopo_program.proofs.ListLemmas.{sound_answers, fault_answers, lines_of_faults, lines_of_refused}
use Rattle.tigertopo_program.proofs.lists.listing.tell_found.Goals as goal

pub returns-in-Sound : goal.returns-in-Sound
returns-in-Sound g c = λ known found noted.
    let asked = wanted_of (map string_bytes c.args.names.now) c.args.wanted in
    does_so _ [] _ _ _ StopsNever _ (sound_answers c.args.options known asked _ c.in-Sound.report (IfSome_then known found.whole (λ text is. subst (IsListingOf c.args.options text) c.in-Sound.is is.told)))
    (λ s never. absurd never) _ c.tell_sound.ensures

pub returns-in-Refused : goal.returns-in-Refused
returns-in-Refused g c = λ known found noted.
    let asked = wanted_of (map string_bytes c.args.names.now) c.args.wanted in
    c.tell_refused.ensures known (IfSome_then known found.whole (λ text is. subst (IsListingOf c.args.options text) c.in-Refused.is is.told))
    (subst (λ (listing : Listing). IsLeft c.args.options (is_skipping c.args.wanted.told) known listing c.args.found.left) c.in-Refused.is found.left)
    (λ asks. lines_of_refused (layout_with c.args.options) (g.F.FileSystem.under c.args.files.now) asked.names c.args.counts.items c.args.found (noted asks) c.in-Refused.list c.in-Refused.is)

pub returns-in-Faults : goal.returns-in-Faults
returns-in-Faults g c = λ known found noted.
    let asked = wanted_of (map string_bytes c.args.names.now) c.args.wanted in
    let u = g.F.FileSystem.under c.args.files.now in
    let lines = λ (asks : asks_lines asked.form asked.made ≡ true). lines_of_faults (layout_with c.args.options) u asked.names c.args.counts.items c.args.found (noted asks) c.in-Faults.faults c.in-Faults.touched c.in-Faults.is in
    does_so _ [] _ _ _ StopsNever _ (fault_answers c.args.options known asked _ c.args.found.whole.map c.in-Faults.faults c.in-Faults.touched
    (IfSome_then known found.whole (λ text is. record { told = subst (IsListingOf c.args.options text) c.in-Faults.is is.told; drawn = is.drawn })))
    (λ s never. absurd never) _ (c.tell_faults.ensures (layout_with c.args.options) lines)

pub tell_refused-requires-clause-some : goal.tell_refused-requires-clause-some
tell_refused-requires-clause-some g c = subst (SaysWhy c.args.found.whole.map) c.in-Refused.is c.requires.why
