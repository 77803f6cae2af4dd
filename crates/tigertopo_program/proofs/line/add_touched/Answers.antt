use Rattle.std.proofs.Common.{refl}
use Rattle.std.proofs.lemmas.Bool.{ne_eqb}
use Rattle.tl_cert_output.proofs.PageLemmas.{both, as_text}
use Rattle.tigertopo_program.proofs.line.add_touched.Goals as goal

pub returns-then-touched-ne0 : goal.returns-then-touched-ne0
returns-then-touched-ne0 g c =
    let page = g.met.P.Page.adding in
    as_text page (both page c.add_number.ensures c.add.ensures) (rw (ne_eqb c.args.touched 0 c.if-touched-ne0.true) refl)
