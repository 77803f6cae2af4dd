use Rattle.std.proofs.Common.{map, string_bytes, arith}
use Rattle.std.specs.Prelude.{option_copied}
use Rattle.tigertopo_faults.specs.Records.SpokenOf.{chains_of}
use Rattle.tigertopo_faults.specs.Records.Keeping.{held}
use Rattle.tl_cert_output.proofs.PageLemmas.{both, as_text}
use Rattle.tigertopo_pictures.proofs.GeojsonLemmas.FeatureLemmas.{one_feature_more}
use Rattle.tigertopo_faults.specs.Lines.Places.{place_at}
use Rattle.tigertopo_faults.specs.Geojson.Texts.{fault_text, fault_feature}
use Rattle.tigertopo_faults.proofs.GeojsonLemmas.ListLemmas.{text_at}
use Rattle.tigertopo_faults.proofs.geojson.fault.print_features.Goals as goal

pub loop-number-preserved : goal.loop-number-preserved
loop-number-preserved g c =
    let page = g.met.P.Page.adding in
    let number = c.loop-number.number in
    let text = fault_text (map string_bytes c.args.names.now) c.args.counts.now (chains_of (option_copied c.args.drawn)) (held c.args.lines.now) (place_at c.args.places.now number) in
    let feature = fault_feature (map string_bytes c.args.names.now) c.args.counts.now (chains_of (option_copied c.args.drawn)) (held c.args.lines.now) c.args.places.now c.args.faults.now in
    let here = text_at text c.args.faults.now number c.index-faults-number.result c.loop-number-test.true c.index-faults-number.is in
    as_text page (both page (both page c.loop-number.invariant c.print_lead.ensures) (as_text page (rw c.place_at-at.ensures at c.print_fault.ensures) here)) (one_feature_more 0 number _ feature (omega arith))
