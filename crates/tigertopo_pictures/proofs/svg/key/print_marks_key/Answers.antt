use Rattle.std.proofs.Common.{[], ap, sym}
use Rattle.std.specs.Prelude.{if◌then◌else◌}
use Rattle.tl_cert_output.proofs.PageLemmas.{as_text, nothing}
use Rattle.tigertopo_pictures.specs.Svg.Texts.{marks_key}
use Rattle.tigertopo_pictures.proofs.svg.key.print_marks_key.Goals as goal

pub returns-then-is_marked : goal.returns-then-is_marked
unfolding marks_key
returns-then-is_marked g c =
    let page = g.met.P.Page.adding in
    as_text page c.add.ensures (sym (ap (λ b. if b then marks_key else []) c.if-is_marked.true))

pub returns-else-is_marked : goal.returns-else-is_marked
returns-else-is_marked g c =
    let page = g.met.P.Page.adding in
    as_text page (nothing page) (sym (ap (λ b. if b then marks_key else []) c.if-is_marked.false))
