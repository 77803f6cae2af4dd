use Rattle.std.proofs.Common.{[], ap, sym}
use Rattle.std.specs.Prelude.{if◌then◌else◌}
use Rattle.tl_cert_output.proofs.PageLemmas.{as_text, nothing}
use Rattle.tigertopo_pictures.specs.Svg.Texts.{move_text}
use Rattle.tigertopo_pictures.proofs.svg.pairs.print_start.Goals as goal

pub returns-then-stroke : goal.returns-then-stroke
returns-then-stroke g c =
    let page = g.met.P.Page.adding in
    as_text page c.print_move.ensures (sym (ap (λ b. if b then move_text c.args.stroke.from else []) c.if-stroke.true))

pub returns-else-stroke : goal.returns-else-stroke
returns-else-stroke g c =
    let page = g.met.P.Page.adding in
    as_text page (nothing page) (sym (ap (λ b. if b then move_text c.args.stroke.from else []) c.if-stroke.false))
