use Rattle.std.proofs.Common.{◌++◌, [], ap, sym}
use Rattle.std.specs.Prelude.{if◌then◌else◌}
use Rattle.tl_cert_output.proofs.PageLemmas.{both, as_text, nothing}
use Rattle.tigertopo_pictures.specs.Svg.Texts.{nodes_part, points_part, marks_part}
use Rattle.tigertopo_pictures.proofs.svg.print.print_marks.Goals as goal

pub returns-then-picture : goal.returns-then-picture
unfolding marks_part
returns-then-picture g c =
    let page = g.met.P.Page.adding in
    as_text page (both page c.print_nodes_part.ensures c.print_points_part.ensures)
    (sym (ap (λ b. if b then nodes_part c.args.picture c.args.map.now ++ points_part c.args.picture.frame c.args.map.now else []) c.if-picture.true))

pub returns-else-picture : goal.returns-else-picture
unfolding marks_part
returns-else-picture g c =
    let page = g.met.P.Page.adding in
    as_text page (nothing page)
    (sym (ap (λ b. if b then nodes_part c.args.picture c.args.map.now ++ points_part c.args.picture.frame c.args.map.now else []) c.if-picture.false))
