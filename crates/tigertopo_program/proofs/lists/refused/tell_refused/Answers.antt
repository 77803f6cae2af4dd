use Rattle.std.proofs.Common.{ℕ, List, Option, map, string_bytes, refl, sym, subst, ◌∙◌}
use Rattle.std.specs.Prelude.{Vec}
use Rattle.std.specs.Global.{Global}
use Rattle.std.specs.Option.{IfSome}
use Rattle.tl_record.specs.Layout.{layout_with}
use Rattle.tl_list_text.specs.declared.listing.Listing.TheVariants.{Refused}
use Rattle.tigertopo_files.specs.World.{world}
use Rattle.tl_list.specs.declared.left.LeftFaults.{LeftFaults}
use Rattle.tl_list.specs.Findings.{IsLeft}
use Rattle.tl_list.specs.Keeping.Noting.{bytes_of}
use Rattle.tigertopo_program.specs.Lists.Keeping.{AreFronts, AreLinesOf}
use Rattle.tigertopo_program.specs.Lists.Listed.{is_skipping, wanted_of}
use Rattle.tigertopo_program.proofs.ListLemmas.{first_refused}
use Rattle.tigertopo_program.proofs.lists.refused.tell_refused.Goals as goal

pub returns-then-stops_refused : goal.returns-then-stops_refused
returns-then-stops_refused g c = λ known are found noted.
    let asked = wanted_of (map string_bytes c.args.names.now) c.args.wanted in
    let w = world g.F.FileSystem.under g.F.FileSystem.log g.F.FileSystem.knows c.args.files.now c.args.files.now in
    let stop = c.first_stop.ensures in
    first_refused c.args.options known asked w c.args.list are refl (λ knows. refl) (sym c.stops_refused.ensures ∙ c.if-stops_refused.true) c.first_stop.result (rw c.as_slice.ensures.value at stop)

pub first_stop-requires : goal.first_stop-requires
first_stop-requires g c = rw c.as_slice.ensures.value c.requires.some

pub returns-in-Some : goal.returns-in-Some
returns-in-Some g c = λ known are found noted.
    let u = g.F.FileSystem.under c.args.files.now in
    let asked = wanted_of (map string_bytes c.args.names.now) c.args.wanted in
    let lines = AreLinesOf (layout_with c.args.options) u asked.names c.args.counts.items c.args.noted.now.records in
    c.tell_left.ensures known are (subst (λ (left : Option LeftFaults). IsLeft c.args.options (is_skipping c.args.wanted.told) known (Refused c.args.list) left) c.in-Some.is found)
    (λ asks. let both = noted asks in (both.0, subst (λ (left : Option LeftFaults). IfSome left (λ it. lines)) c.in-Some.is both.1))

pub returns-in-None : goal.returns-in-None
returns-in-None g c = λ known are found noted.
    let u = g.F.FileSystem.under c.args.files.now in
    let asked = wanted_of (map string_bytes c.args.names.now) c.args.wanted in
    c.tell_refusals.ensures known (sym c.stops_refused.ensures ∙ c.if-stops_refused.false) are
    (subst (λ (left : Option LeftFaults). IsLeft c.args.options (is_skipping c.args.wanted.told) known (Refused c.args.list) left) c.in-None.is found)
    (λ asks. let both = noted asks in
    subst (λ (counts : List ℕ). AreFronts u asked.names counts c.args.list.items (bytes_of c.as_slice-fronts.result.now)) (sym c.as_slice-counts.ensures.value)
    (subst (λ (fs : List (Vec ℕ Global)). AreFronts u asked.names c.args.counts.items c.args.list.items (bytes_of fs)) (sym c.as_slice-fronts.ensures.value) both.0))
