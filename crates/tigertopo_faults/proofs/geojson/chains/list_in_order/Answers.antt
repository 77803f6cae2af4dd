use Rattle.std.proofs.Common.{sym, ap, ◌∙◌}
use Rattle.std.proofs.lemmas.Result.{err_from_is_err_and}
use Rattle.std.specs.Prelude.{option_copied}
use Rattle.std.proofs.lemmas.List.{take_all}
use Rattle.tl_check_verdict.specs.declared.fault.MapFault.{MapFault}
use Rattle.tl_map_rules.specs.Rows.{Row}
use Rattle.tl_check_verdict.specs.declared.rows.About.{About}
use Rattle.tl_check_verdict.specs.Rows.{row}
use Rattle.tigertopo_faults.specs.Records.SpokenOf.{chains_of}
use Rattle.tigertopo_pictures.proofs.GeojsonLemmas.TextLemmas.{each_at}
use Rattle.tigertopo_faults.specs.Geojson.Named.{tlids_of, listed}
use Rattle.tigertopo_faults.specs.Geojson.Texts.{named_tlids}
use Rattle.tigertopo_faults.proofs.geojson.chains.list_in_order.Goals as goal

pub loop-fault-init : goal.loop-fault-init
loop-fault-init c = c.new-tlids.ensures.items

pub loop-fault-preserved : goal.loop-fault-preserved
loop-fault-preserved c =
    let chains = chains_of (option_copied c.args.drawn) in
    let named = c.tlids_of.ensures ∙ ap (λ (r : Row About). tlids_of chains r.2) c.row.ensures in
    rw (c.in_ok-push_both.ensures, named, c.loop-fault.invariant, c.fault-item.is)
    (sym (each_at (λ (f : MapFault). listed (tlids_of chains (row f).2)) c.args.faults.now c.loop-fault.fault-index c.fault-item.result c.loop-fault-test.true))

pub returns : goal.returns
returns c = c.loop-fault.invariant ∙ ap (named_tlids (chains_of (option_copied c.args.drawn))) (take_all c.loop-fault.fault-index c.args.faults.now c.loop-fault-test.false)

pub returns-in_err-push_both : goal.returns-in_err-push_both
returns-in_err-push_both c = let p = err_from_is_err_and c.from_residual.result c.from_residual.ensures.1 in rw p.1 tt
