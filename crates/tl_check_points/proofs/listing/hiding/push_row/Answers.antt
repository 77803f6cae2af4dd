use Rattle.std.proofs.Common.{refl, arith}
use Rattle.std.proofs.lemmas.Result.{err_from_is_err_and}
use Rattle.tl_map_county.proofs.RemainingLemmas.{one_more_row}
use Rattle.tl_check_points.proofs.listing.hiding.push_row.Goals as goal

pub returns : goal.returns
returns c =
    one_more_row _ c.args.points.now.items c.args.more.now c.extend_from_slice.new.self.items c.args.rows.now.items c.push.new.self.items c.args.tlid c.len-first.result _
    c.requires.table refl refl c.requires.some (omega (arith, c.len-first.ensures, c.args.points.now.ok.0)) refl c.in_ok-extend_from_slice.ensures.items c.in_ok-push.ensures.items

pub returns-in_err-extend_from_slice : goal.returns-in_err-extend_from_slice
returns-in_err-extend_from_slice c = let p = err_from_is_err_and c.from_residual.result c.from_residual.ensures.1 in rw p.1 tt

pub returns-in_err-push : goal.returns-in_err-push
returns-in_err-push c = let p = err_from_is_err_and c.from_residual-in_err-push.result c.from_residual-in_err-push.ensures.1 in rw p.1 tt
