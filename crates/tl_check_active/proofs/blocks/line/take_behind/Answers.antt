use Rattle.std.proofs.lemmas.Result.{err_from_is_err_and}
use Rattle.tl_check_active.proofs.BlocksLemmas.Numbers.{behind_is}
use Rattle.tl_check_active.proofs.blocks.line.take_behind.Goals as goal

pub returns-clause-behind : goal.returns-clause-behind
returns-clause-behind c =
    behind_is c.extend_from_slice.new.self.items _ c.deref.result.now c.args.items.now.items c.args.half c.in_ok-extend_from_slice.ensures.items c.in_ok-behind.ensures.items c.deref.ensures.value

pub returns-in_err-behind-clause-kept : goal.returns-in_err-behind-clause-kept
returns-in_err-behind-clause-kept c = let p = err_from_is_err_and c.from_residual.result c.from_residual.ensures.1 in rw p.1 tt

pub returns-in_err-behind-clause-behind : goal.returns-in_err-behind-clause-behind
returns-in_err-behind-clause-behind c = let p = err_from_is_err_and c.from_residual.result c.from_residual.ensures.1 in rw p.1 tt

pub returns-in_err-extend_from_slice-clause-kept : goal.returns-in_err-extend_from_slice-clause-kept
returns-in_err-extend_from_slice-clause-kept c = let p = err_from_is_err_and c.from_residual-in_err-extend_from_slice.result c.from_residual-in_err-extend_from_slice.ensures.1 in rw p.1 tt

pub returns-in_err-extend_from_slice-clause-behind : goal.returns-in_err-extend_from_slice-clause-behind
returns-in_err-extend_from_slice-clause-behind c = let p = err_from_is_err_and c.from_residual-in_err-extend_from_slice.result c.from_residual-in_err-extend_from_slice.ensures.1 in rw p.1 tt
