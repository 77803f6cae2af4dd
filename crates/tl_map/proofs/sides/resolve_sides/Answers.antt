use Rattle.std.proofs.lemmas.Result.{err_from_is_err_and}
use Rattle.std.proofs.Common.{◌≡◌, ◌∙◌, get_or, map, ap, arith}
use Rattle.std.proofs.lemmas.List.{take_all}
use Rattle.tl_map.specs.Keeping.Sided.{sided_by}
use Rattle.tl_map.proofs.SideLemmas.{sides_more, known_more}
use Rattle.tl_map.proofs.PairLemmas.{no_sides}
use Rattle.tl_map.proofs.sides.resolve_sides.Goals as goal

pub loop-place-preserved : goal.loop-place-preserved
loop-place-preserved c =
    let d = no_sides in
    let entry : c.get-entry.result ≡ get_or c.args.entries.now c.loop-place.place d = c.get-entry.ensures d in
    record {
      sides = λ ks h. sides_more ks c.args.entries.now c.loop-place.place d c.loop-place.sides _ c.in-Some.left c.in-Some-resolve_side.right (omega (arith, c.loop-place-test.true, c.len-count.ensures)) (c.loop-place.invariant.sides ks h) (rw entry at (c.in-Some.ensures.side ks h)) (rw entry at (c.in-Some-resolve_side.ensures.side ks h)) (rw entry at c.in_ok-push.ensures);
      known = λ ks h. known_more ks c.args.entries.now c.loop-place.place d c.in-Some.left c.in-Some-resolve_side.right (omega (arith, c.loop-place-test.true, c.len-count.ensures)) (rw entry at (c.in-Some.ensures.side ks h)) (rw entry at (c.in-Some-resolve_side.ensures.side ks h)) (c.loop-place.invariant.known ks h);
    }

pub returns-clause-known : goal.returns-clause-known
returns-clause-known c = λ ks h k d lt. c.loop-place.invariant.known ks h k d (omega (arith, lt, c.loop-place-test.false, c.len-count.ensures))

pub new-requires : goal.new-requires
new-requires c = c.requires

pub resolve_side-requires : goal.resolve_side-requires
resolve_side-requires c = c.requires

pub resolve_side-requires-in-loop-place : goal.resolve_side-requires-in-loop-place
resolve_side-requires-in-loop-place c = c.requires

pub returns-in_err-guesses-clause-sides : goal.returns-in_err-guesses-clause-sides
returns-in_err-guesses-clause-sides c = λ ks h.
    let p = err_from_is_err_and c.from_residual.result c.from_residual.ensures.1 in
    rw p.1 tt

pub returns-in_err-guesses-clause-known : goal.returns-in_err-guesses-clause-known
returns-in_err-guesses-clause-known c = λ ks h.
    let p = err_from_is_err_and c.from_residual.result c.from_residual.ensures.1 in
    rw p.1 tt

pub returns-in_err-guesses-clause-stops : goal.returns-in_err-guesses-clause-stops
returns-in_err-guesses-clause-stops c = λ ks h.
    let p = err_from_is_err_and c.from_residual.result c.from_residual.ensures.1 in
    rw (p.1, p.2) tt

pub returns-in_err-sides-clause-sides : goal.returns-in_err-sides-clause-sides
returns-in_err-sides-clause-sides c = λ ks h.
    let p = err_from_is_err_and c.from_residual-in_err-sides.result c.from_residual-in_err-sides.ensures.1 in
    rw p.1 tt

pub returns-in_err-sides-clause-known : goal.returns-in_err-sides-clause-known
returns-in_err-sides-clause-known c = λ ks h.
    let p = err_from_is_err_and c.from_residual-in_err-sides.result c.from_residual-in_err-sides.ensures.1 in
    rw p.1 tt

pub returns-in_err-sides-clause-stops : goal.returns-in_err-sides-clause-stops
returns-in_err-sides-clause-stops c = λ ks h.
    let p = err_from_is_err_and c.from_residual-in_err-sides.result c.from_residual-in_err-sides.ensures.1 in
    rw (p.1, p.2) tt

pub returns-in_err-push-clause-sides : goal.returns-in_err-push-clause-sides
returns-in_err-push-clause-sides c = λ ks h.
    let p = err_from_is_err_and c.from_residual-in_err-push.result c.from_residual-in_err-push.ensures.1 in
    rw p.1 tt

pub returns-in_err-push-clause-known : goal.returns-in_err-push-clause-known
returns-in_err-push-clause-known c = λ ks h.
    let p = err_from_is_err_and c.from_residual-in_err-push.result c.from_residual-in_err-push.ensures.1 in
    rw p.1 tt

pub returns-in_err-push-clause-stops : goal.returns-in_err-push-clause-stops
returns-in_err-push-clause-stops c = λ ks h.
    let p = err_from_is_err_and c.from_residual-in_err-push.result c.from_residual-in_err-push.ensures.1 in
    rw (p.1, p.2) tt

pub returns-clause-stops : goal.returns-clause-stops
returns-clause-stops c = λ ks h. tt

pub loop-place-init : goal.loop-place-init
loop-place-init c = record {
  sides = λ ks h. c.in_ok-sides.ensures;
  known = λ ks h j d lt. absurd (omega (arith, lt));
}

pub returns-clause-sides : goal.returns-clause-sides
returns-clause-sides c = λ ks h.
    c.loop-place.invariant.sides ks h ∙ ap (map (sided_by ks)) (take_all c.loop-place.place c.args.entries.now (omega (arith, c.loop-place-test.false, c.len-count.ensures)))
