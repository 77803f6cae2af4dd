use Rattle.std.proofs.Common.{refl, sym, subst}
use Rattle.std.proofs.lemmas.Result.{err_from_is_err_and}
use Rattle.tl_check_sides.specs.Keeping.Walked.{HaveWalked}
use Rattle.tl_check_sides.proofs.Headings.{dart_within}
use Rattle.tl_check.proofs.rounds.begin_walks.Goals as goal

pub end-requires : goal.end-requires
end-requires c = record { sized = c.requires.held.1.sized }

pub disagreement-requires : goal.disagreement-requires
disagreement-requires c = c.in-Ok.ensures.next c.requires.held.0.rounds c.requires.held.1.taken

pub dart_start-requires : goal.dart_start-requires
dart_start-requires c = dart_within c.args.map.now.chains c.in-Some.found.first c.in-Some.ensures.some.0.node c.in-Some.ensures.some.0.a_starts

pub new-requires : goal.new-requires
new-requires c = record { next = c.in-Ok.ensures.next c.requires.held.0.rounds c.requires.held.1.taken }

pub returns-in-Err : goal.returns-in-Err
returns-in-Err c = record {
  holds = λ cert so. c.in-Err.ensures.fault cert.rounds so.taken;
  takes = tt;
  searched = λ n within. within;
  behind = λ planar. planar;
}

pub returns-in-Some : goal.returns-in-Some
returns-in-Some c = record {
  halts = record { at = c.dart_start.ensures; is_next = c.in-Some.ensures.some.0; differ = c.in-Some.ensures.some.1 };
  allowed = λ cert so. record { counts = so.founded.counts; tree = so.founded.tree };
}

pub returns-in_err-walks : goal.returns-in_err-walks
returns-in_err-walks c = let p = err_from_is_err_and c.from_residual.result c.from_residual.ensures.1 in rw (p.1, p.2) (record {
  halts = tt;
  allowed = λ cert so. record { counts = so.founded.counts; tree = so.founded.tree };
})

pub returns : goal.returns
returns c = record {
  holds = λ cert so. record {
    founded = so.founded;
    rounds = c.in-Ok.ensures.whole cert.rounds so.taken;
    sides = c.in-None.ensures.none refl;
    ready = c.in_ok-walks.ensures.ready;
    walked = subst (λ walks. HaveWalked c.args.map.now.chains walks c.in_ok-walks.walks) (sym so.no_walks) c.in_ok-walks.ensures.none;
    no_more = so.no_more;
  };
  takes = tt;
  searched = λ n within. within;
  behind = λ planar. planar;
}
