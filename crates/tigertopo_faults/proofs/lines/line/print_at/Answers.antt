use Rattle.std.proofs.Common.{◌≡◌, true, sym, ◌∙◌}
use Rattle.tigertopo_faults.specs.Places.Degrees.{is_in_reach}
use Rattle.tl_cert_output.proofs.PageLemmas.{both}
use Rattle.tigertopo_faults.proofs.lines.line.print_at.Goals as goal

pub returns-then-is_in_reach : goal.returns-then-is_in_reach
returns-then-is_in_reach g c =
    let page = g.met.P.Page.adding in
    let reach : is_in_reach c.in-Some.at ≡ true = sym c.is_in_reach.ensures ∙ c.if-is_in_reach.true in
    rw (c.in-Some.is, reach) (both page c.add.ensures c.print_location.ensures)
