use Rattle.std.proofs.Common.{◌<◌, ℕ, ◌∷◌, [], ◌++◌, length, take, ap, ◌∙◌, sym, arith}
use Rattle.std.proofs.lemmas.List.{take_more, take_all, length-map}
use Rattle.std.proofs.lemmas.Option.{get_or_from_slice_get}
use Rattle.std.proofs.lemmas.Result.{err_from_is_err_and}
use Rattle.tl_map_county.specs.Chains.{CompleteChain, tlids}
use Rattle.tl_map.proofs.left.tlids_of_chains.Goals as goal

pub loop-number-init : goal.loop-number-init
loop-number-init c = c.in_ok-made.ensures.items

pub loop-number-preserved : goal.loop-number-preserved
loop-number-preserved c =
    let ts = tlids c.args.chains.now.chains in
    let lt : c.loop-number.number < length ts = omega (arith, c.loop-number-test.true, c.len-count.ensures, length-map c.args.chains.now.chains (λ (x : CompleteChain). x.tlid)) in
    rw (c.in_ok-push.ensures.items, c.loop-number.invariant) (ap (λ (t : ℕ). take c.loop-number.number ts ++ t ∷ []) (sym (get_or_from_slice_get ts c.loop-number.number _ 0 c.tlid.ensures)) ∙ sym (take_more ts c.loop-number.number 0 lt))

pub returns : goal.returns
returns c = c.loop-number.invariant ∙ take_all c.loop-number.number (tlids c.args.chains.now.chains) (omega (arith, c.loop-number-test.false, c.len-count.ensures, length-map c.args.chains.now.chains (λ (x : CompleteChain). x.tlid)))

pub returns-in_err-made : goal.returns-in_err-made
returns-in_err-made c = let p = err_from_is_err_and c.from_residual.result c.from_residual.ensures.1 in rw p.1 tt

pub returns-in_err-push : goal.returns-in_err-push
returns-in_err-push c = let p = err_from_is_err_and c.from_residual-in_err-push.result c.from_residual-in_err-push.ensures.1 in rw p.1 tt
