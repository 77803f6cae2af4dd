use Rattle.std.proofs.Common.{◌≡◌, length, subst, arith}
use Rattle.std.proofs.lemmas.Result.{err_from_is_err_and}
use Rattle.std.proofs.lemmas.List.{nil_from_length}
use Rattle.tl_check_inside.specs.Keeping.Tallies.{TellCounts}
use Rattle.tl_check_points.proofs.ListingLemmas.Joined.{off_where_none}
use Rattle.tl_check_points.proofs.listing.beside.is_apart.Goals as goal

pub returns-then-is_empty : goal.returns-then-is_empty
returns-then-is_empty g c = λ apart.
    let held = c.look_about.new.held in
    let crossed = c.look_about.new.crossed in
    let none : length held.items ≡ 0 = grind (arith, c.is_empty.ensures, c.if-is_empty.true) in
    let uncrossed : length crossed.items ≡ 0 = grind (arith, c.is_empty-then-is_empty.ensures, apart) in
    record {
      off = off_where_none c.args.taken.now.chains c.args.site.point held.items c.in_ok-look_about.ensures.held (nil_from_length held.items none);
      tell = subst (TellCounts c.args.taken.now.chains c.args.site.point) (nil_from_length crossed.items uncrossed) c.in_ok-look_about.ensures.tell;
    }

pub returns-in_err-look_about : goal.returns-in_err-look_about
returns-in_err-look_about g c = let p = err_from_is_err_and c.from_residual.result c.from_residual.ensures.1 in rw p.1 tt
