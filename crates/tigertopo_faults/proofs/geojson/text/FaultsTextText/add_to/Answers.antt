use Rattle.std.proofs.Common.{◌≡◌, sym, ap, ◌∙◌}
use Rattle.std.specs.Prelude.{option_copied}
use Rattle.tigertopo_faults.specs.Records.SpokenOf.{chains_of}
use Rattle.tigertopo_faults.specs.Geojson.Texts.{named_tlids, chains_text, faults_text}
use Rattle.tigertopo_faults.proofs.GeojsonLemmas.ChainLemmas.{chains_same}
use Rattle.tl_cert_output.proofs.PageLemmas.{both, as_text}
use Rattle.tigertopo_faults.proofs.geojson.text.FaultsTextText.add_to.Goals as goal

pub returns-clause-adds : goal.returns-clause-adds
unfolding faults_text
returns-clause-adds g c =
    let page = g.met.P.Page.adding in
    let told = c.args.self.now in
    let drawn = option_copied told.drawn in
    let same : chains_text drawn c.as_slice.result.now ≡ chains_text drawn (named_tlids (chains_of drawn) told.faults.now) =
    ap (chains_text drawn) c.as_slice.ensures.value ∙ sym (chains_same drawn _ _ c.in_ok-tlids.ensures.moved) in
    both page (both page (both page (both page c.add.ensures c.print_features.ensures) (as_text page c.print_chains.ensures same)) (as_text page c.add-2.ensures c.behind_faults.ensures)) c.print_closing.ensures
