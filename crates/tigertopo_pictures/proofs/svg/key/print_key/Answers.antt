use Rattle.std.proofs.Common.{[], ap}
use Rattle.std.specs.Prelude.{if◌then◌else◌, not}
use Rattle.tl_cert_output.proofs.PageLemmas.{both, as_text}
use Rattle.tigertopo_pictures.specs.Svg.Texts.{faults_key}
use Rattle.tigertopo_pictures.proofs.svg.key.print_key.Goals as goal

pub returns : goal.returns
returns g c =
    let page = g.met.P.Page.adding in
    let faults = as_text page c.print_faults_key.ensures (ap (λ b. if not b then faults_key else []) c.is_empty.ensures) in
    both page (both page (both page c.print_chain_key.ensures c.print_marks_key.ensures) faults) c.print_scale.ensures
