use Rattle.std.proofs.Common.{sym, ◌∙◌, arith}
use Rattle.tl_cert_output.proofs.PageLemmas.{nothing, as_text}
use Rattle.tigertopo_border.proofs.CountLemmas.{few_points}
use Rattle.tigertopo_border.proofs.PrintLemmas.{records_there, no_records_there}
use Rattle.tigertopo_border.proofs.border.print_if_blank.Goals as goal

pub returns-then-has_blank : goal.returns-then-has_blank
returns-then-has_blank g c =
    let page = g.met.P.Page.adding in
    as_text page c.print_chain.ensures (records_there c.args.name c.args.map.now c.args.number _ _ _ _ c.chain-chain.ensures.chain (sym c.has_blank.ensures ∙ c.if-has_blank.true))

pub returns-else-has_blank : goal.returns-else-has_blank
returns-else-has_blank g c =
    let page = g.met.P.Page.adding in
    as_text page (nothing page) (no_records_there c.args.name c.args.map.now c.args.number _ _ _ _ c.chain-chain.ensures.chain (sym c.has_blank.ensures ∙ c.if-has_blank.false))

pub print_chain-requires-clause-few : goal.print_chain-requires-clause-few
print_chain-requires-clause-few g c =
    let few = few_points c.args.map.now c.args.number _ _ _ _ c.chain-chain.ensures.chain in
    omega (arith, few, c.segments.ensures.count, c.segments.ensures.few)
