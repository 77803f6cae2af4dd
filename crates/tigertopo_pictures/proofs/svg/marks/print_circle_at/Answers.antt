use Rattle.std.proofs.Common.{◌∙◌, [], ap, sym}
use Rattle.std.specs.Prelude.{if◌then◌else◌}
use Rattle.tl_cert_output.proofs.PageLemmas.{as_text, nothing}
use Rattle.tigertopo_pictures.specs.Svg.Texts.{circle_text}
use Rattle.tigertopo_pictures.proofs.svg.marks.print_circle_at.Goals as goal

pub returns-then-holds : goal.returns-then-holds
returns-then-holds g c =
    let page = g.met.P.Page.adding in
    as_text page c.print_circle.ensures (sym (ap (λ b. if b then circle_text c.args.frame c.args.mark c.args.fault.now else []) (sym c.holds.ensures ∙ c.if-holds.true)))

pub returns-else-holds : goal.returns-else-holds
returns-else-holds g c =
    let page = g.met.P.Page.adding in
    as_text page (nothing page) (sym (ap (λ b. if b then circle_text c.args.frame c.args.mark c.args.fault.now else []) (sym c.holds.ensures ∙ c.if-holds.false)))
