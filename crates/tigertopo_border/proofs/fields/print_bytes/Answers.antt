use Rattle.std.proofs.lemmas.List.{replicate_more}
use Rattle.tl_cert_output.proofs.PageLemmas.{both, as_text}
use Rattle.tigertopo_border.proofs.fields.print_bytes.Goals as goal

pub loop-preserved : goal.loop-preserved
loop-preserved g c =
    let page = g.met.P.Page.adding in
    as_text page (both page c.loop.invariant c.add.ensures) (replicate_more c.loop.counter c.args.byte)
