use Rattle.std.proofs.Common.{◌∙◌, sym, arith}
use Rattle.tl_map.proofs.UnbuiltLemmas.{by_answer}
use Rattle.tl_map.proofs.SequenceLemmas.{numbered_from_placed}
use Rattle.tl_map.proofs.GapLemmas.{shapes_with_is, AreShapesNumbered-from_entries, AreNumbered-from_records}
use Rattle.tl_map.proofs.ChainLemmas.{chains_with_is}
use Rattle.tl_map.proofs.build.are_sound.Goals as goal

pub returns-then-not-have_own_tlids : goal.returns-then-not-have_own_tlids
returns-then-not-have_own_tlids c = λ rs pool chains shapes none.
    let two = c.if-not-have_own_tlids.ensures in
    none.once two.0 (omega (arith, two.1, chains_with_is rs c.args.chains.now chains two.0))

pub returns-then-not-have_chains : goal.returns-then-not-have_chains
returns-then-not-have_chains c = λ rs pool chains shapes none.
    let stray = c.if-not-have_chains.ensures in
    none.no_stray stray.0 (omega (arith, stray.1, shapes_with_is rs pool c.args.shapes.now shapes stray.0), sym (chains_with_is rs c.args.chains.now chains stray.0) ∙ stray.2)

pub returns-then-not-are_numbered : goal.returns-then-not-are_numbered
returns-then-not-are_numbered c = λ rs pool chains shapes none.
    let off = c.if-not-are_numbered.ensures in
    none.in_sequence off.0 (λ numbered. off.1 (AreNumbered-from_records rs pool c.args.shapes.now shapes off.0 numbered))

pub returns : goal.returns
returns c = λ rs pool chains shapes.
    let placed = c.if-not-are_numbered.ensures in
    by_answer c.have_no_gap.result _ _ _ _
    (λ free. record { rising = c.if-not-have_own_tlids.ensures; known = c.if-not-have_chains.ensures; placed = placed; no_gap = free })
    (λ gap none. none.no_gap gap.0 (record { numbered = AreShapesNumbered-from_entries rs pool c.args.shapes.now shapes gap.0 (numbered_from_placed c.args.shapes.now placed gap.0); gap = gap.1 }))
    (c.have_no_gap.ensures rs pool shapes)
