use Rattle.std.proofs.Common.{ℕ, List, ◌∙◌, ap}
use Rattle.tl_cert_output.proofs.PageLemmas.{both, as_text}
use Rattle.tl_check_verdict.specs.declared.rows.About.{About}
use Rattle.tigertopo_pictures.specs.Svg.Texts.{circle_head, label_head}
use Rattle.tigertopo_pictures.proofs.svg.marks.print_circle.Goals as goal

pub returns : goal.returns
returns g c =
    let page = g.met.P.Page.adding in
    both page (both page (both page (both page (both page (as_text page c.print_circle_head.ensures (ap circle_head c.spot_at-spot.ensures)) c.print_spelt.ensures) c.print_closer.ensures) (as_text page c.print_label_head.ensures (ap (label_head c.args.frame) c.spot_at-spot.ensures))) (as_text page c.add.ensures (c.as_bytes.ensures.value ∙ ap (λ (row : List ℕ × List ℕ × About). row.0) c.row.ensures))) c.add-2.ensures
