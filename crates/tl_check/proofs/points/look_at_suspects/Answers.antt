use Rattle.std.proofs.Common.{◌≡◌, length, arith}
use Rattle.std.proofs.lemmas.List.{nil_from_length}
use Rattle.std.proofs.lemmas.Result.{err_from_is_err_and}
use Rattle.tl_check_points.proofs.Suspecting.{placed_but}
use Rattle.tl_check.proofs.points.look_at_suspects.Goals as goal

pub returns-then-is_empty-clause-placed : goal.returns-then-is_empty-clause-placed
returns-then-is_empty-clause-placed c =
    let none : length c.args.suspects.now ≡ 0 = grind (arith, c.is_empty.ensures, c.if-is_empty.true) in
    placed_but c.args.map.now c.args.suspects.now c.requires (nil_from_length c.args.suspects.now none)

pub returns-in_err-find_among_suspects-clause-placed : goal.returns-in_err-find_among_suspects-clause-placed
returns-in_err-find_among_suspects-clause-placed c = let p = err_from_is_err_and c.from_residual.result c.from_residual.ensures.1 in rw p.1 tt

pub returns-in_err-find_among_suspects-clause-halts : goal.returns-in_err-find_among_suspects-clause-halts
returns-in_err-find_among_suspects-clause-halts c = let p = err_from_is_err_and c.from_residual.result c.from_residual.ensures.1 in rw (p.1, p.2) tt
