use Rattle.std.proofs.Common.{◌<◌, List, length, subst, arith}
use Rattle.std.proofs.lemmas.Option.{slice_get_within}
use Rattle.tl_map_county.specs.TheMap.{MapChain}
use Rattle.tl_map_county.specs.Segments.{segments_before}
use Rattle.tl_check_planar.specs.Searching.{AreBeyond}
use Rattle.tl_check_planar.proofs.Meetings.{true_meet, planar_within}
use Rattle.tl_check_planar.proofs.meet.first_meet.Goals as goal

pub returns-in-Found : goal.returns-in-Found
returns-in-Found g c =
    true_meet c.args.map.now.chains c.new.result (record { tlid = c.chain.result.tlid; s = c.in-Found.i; other = c.chain-in-Found.result.tlid; t = c.in-Found.j; at = c.in-Found.c }) c.new.ensures c.in-Found.ensures
    (record { c = c.segment_chain.result; k = c.segment_chain.ensures.0; number = c.segment_chain.ensures.1; chain = c.chain.ensures.chain.chain; is = c.chain.ensures.chain.is; tlid_is = c.chain.ensures.chain.tlid_is })
    (record { c = c.segment_chain-in-Found.result; k = c.segment_chain-in-Found.ensures.0; number = c.segment_chain-in-Found.ensures.1; chain = c.chain-in-Found.ensures.chain.chain; is = c.chain-in-Found.ensures.chain.is; tlid_is = c.chain-in-Found.ensures.chain.tlid_is })

pub returns-in-Clear : goal.returns-in-Clear
returns-in-Clear g c = planar_within c.args.map.now.chains c.new.result c.args.budget c.new.ensures c.in-Clear.ensures

pub returns-in-Budget : goal.returns-in-Budget
returns-in-Budget g c = subst (λ (cs : List MapChain). AreBeyond cs c.args.budget) c.new.ensures c.in-Budget.ensures

pub segment_chain-requires : goal.segment_chain-requires
segment_chain-requires g c =
    let conflict = c.in-Found.ensures in
    let ordered = conflict.ordered in
    let known = conflict.known in
    subst (λ cs. c.in-Found.i < segments_before cs (length cs)) c.new.ensures (omega (arith, ordered, known))

pub chain-requires : goal.chain-requires
chain-requires g c = let number = c.segment_chain.ensures.1 in slice_get_within _ _ number.chain number.is
