use Rattle.std.proofs.Common.{◌∙◌, rules, sym}
use Rattle.tl_cert_output.proofs.PageLemmas.{as_text, nothing}
use Rattle.tigertopo_pictures.proofs.SvgLemmas.FillLemmas.{step_there, step_none}
use Rattle.tigertopo_pictures.proofs.svg.filled.print_step.Goals as goal

pub returns-then-not-is_spot : goal.returns-then-not-is_spot
returns-then-not-is_spot g c =
    let page = g.met.P.Page.adding in
    as_text page c.print_pair.ensures (step_there c.args.from c.args.to _ _ (sym c.is_spot.ensures ∙ c.if-not-is_spot.true) (search rules) (search rules))

pub returns-else-not-is_spot : goal.returns-else-not-is_spot
returns-else-not-is_spot g c =
    let page = g.met.P.Page.adding in
    as_text page (nothing page) (step_none c.args.from c.args.to (sym c.is_spot.ensures ∙ c.if-not-is_spot.false))
