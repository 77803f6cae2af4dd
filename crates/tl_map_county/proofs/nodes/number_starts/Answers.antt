use Rattle.std.proofs.Common.{◌≡◌, ◌∙◌, length, pos, arith}
use Rattle.std.proofs.lemmas.List.{length-set}
use Rattle.tl_map_county.specs.declared.nodes.DartStart.{DartStart}
use Rattle.tl_map_county.proofs.NumberingLemmas.{numbering_more, numbering_whole}
use Rattle.tl_map_county.proofs.nodes.number_starts.Goals as goal

pub loop-start-preserved : goal.loop-start-preserved
loop-start-preserved c =
    let x : DartStart = record { point = record { x = pos 0; y = pos 0 }; dart = 0 } in
    let before = c.loop-start.invariant in
    let after = numbering_more c.args.starts.now c.loop-start.start-index x c.loop-start.numbers.items c.loop-start.count c.count_on-count.result c.loop-start.previous c.requires.ordered c.requires.darts c.loop-start-test.true before.long c.count_on-count.ensures before.numbering in
    record { numbering = after; long = length-set c.loop-start.numbers.items _ _ ∙ before.long }

pub returns-clause-numbered : goal.returns-clause-numbered
returns-clause-numbered c =
    let whole : c.loop-start.start-index ≡ length c.args.starts.now = omega (arith, c.loop-start-test.false, c.loop-start.auto.start-index-end) in
    numbering_whole c.args.starts.now _ _ _ _ whole c.loop-start.invariant.numbering
