use Rattle.std.proofs.Common.{[], ap, sym}
use Rattle.std.specs.Prelude.{if◌then◌else◌}
use Rattle.tl_cert_output.proofs.PageLemmas.{as_text, nothing}
use Rattle.tigertopo_pictures.specs.Svg.Texts.{faults_key}
use Rattle.tigertopo_pictures.proofs.svg.key.print_faults_key.Goals as goal

pub returns-then-has_faults : goal.returns-then-has_faults
unfolding faults_key
returns-then-has_faults g c =
    let page = g.met.P.Page.adding in
    as_text page c.add.ensures (sym (ap (λ b. if b then faults_key else []) c.if-has_faults.true))

pub returns-else-has_faults : goal.returns-else-has_faults
returns-else-has_faults g c =
    let page = g.met.P.Page.adding in
    as_text page (nothing page) (sym (ap (λ b. if b then faults_key else []) c.if-has_faults.false))
