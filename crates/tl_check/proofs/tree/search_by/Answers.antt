use Rattle.std.proofs.Common.{refl, sym, subst}
use Rattle.std.proofs.lemmas.Result.{err_from_is_err_and}
use Rattle.tl_check_sides.specs.Keeping.Rounded.{HaveTaken}
use Rattle.tl_check_verdict.specs.Valid.{IsTree}
use Rattle.tl_check.specs.Keeping.Searching.{MayFind, IsFoundPlanar}
use Rattle.tl_check.proofs.Halting.{may_halt, so_unless_memory}
use Rattle.tl_check.proofs.Meeting.{met_so}
use Rattle.tl_check.proofs.Treed.{tree_fits, tree_is, fault_stays}
use Rattle.tl_check.proofs.tree.search_by.Goals as goal

pub search-requires : goal.search-requires
search-requires c = record { fits = tree_fits c.args.map.now.chains c.args.tree c.new.result c.in_ok-fault.field-0 c.in_ok-fault.ensures.found c.in-None.is c.new.ensures }

pub returns-in-Some : goal.returns-in-Some
returns-in-Some c = record {
  holds = λ cert counts tree rounds walks d on.
      fault_stays c.args.map.now cert d c.args.tree c.args.tree c.new.result c.in_ok-fault.field-0 c.in-Some.fault c.in_ok-fault.ensures.found c.in-Some.is c.new.ensures refl tree on;
  rounds = tt;
  searched = tt;
  behind = λ of_darts. absurd of_darts;
}

pub returns-in_err-fault : goal.returns-in_err-fault
returns-in_err-fault c = let p = err_from_is_err_and c.from_residual.result c.from_residual.ensures.1 in rw (p.1, p.2) (record { halts = tt; tree = tt; meets = tt })

pub returns-in-Meet : goal.returns-in-Meet
returns-in-Meet c = record {
  halts = subst (MayFind c.args.map.now c.args.budget) c.in-Meet.is c.in_ok-meet.ensures;
  tree = tree_is c.args.map.now c.args.tree c.args.tree c.new.result c.in_ok-fault.field-0 c.in_ok-fault.ensures.found c.in-None.is c.new.ensures refl c.requires.shallow;
  meets = tt;
}

pub returns-in-Budget : goal.returns-in-Budget
returns-in-Budget c = record {
  halts = subst (MayFind c.args.map.now c.args.budget) c.in-Budget.is c.in_ok-meet.ensures;
  tree = tree_is c.args.map.now c.args.tree c.args.tree c.new.result c.in_ok-fault.field-0 c.in_ok-fault.ensures.found c.in-None.is c.new.ensures refl c.requires.shallow;
  meets = tt;
}

pub returns-in_ok-rounds-in-Planar : goal.returns-in_ok-rounds-in-Planar
returns-in_ok-rounds-in-Planar c =
    let so : IsFoundPlanar c.args.map.now c.args.budget c.in-Planar.left = subst (MayFind c.args.map.now c.args.budget) c.in-Planar.is c.in_ok-meet.ensures in
    record {
      holds = λ cert counts tree rounds walks. record {
        founded = record {
          counts = counts;
          tree = subst (IsTree c.args.map.now) (sym tree) (tree_is c.args.map.now c.args.tree c.args.tree c.new.result c.in_ok-fault.field-0 c.in_ok-fault.ensures.found c.in-None.is c.new.ensures refl c.requires.shallow);
          planar = so.planar;
          cells = c.in_ok-rounds-in-Planar.ensures.agree;
        };
        no_walks = walks;
        sized = c.in_ok-rounds-in-Planar.ensures.sized;
        taken = subst (λ taken. HaveTaken c.args.map.now.chains taken c.in_ok-rounds-in-Planar.rounds) (sym rounds) c.in_ok-rounds-in-Planar.ensures.none;
        no_more = so.no_more;
      };
      rounds = tt;
      searched = so.within;
      behind = so.planar;
    }

pub returns-in_err-rounds-in-Planar : goal.returns-in_err-rounds-in-Planar
returns-in_err-rounds-in-Planar c =
    let so : IsFoundPlanar c.args.map.now c.args.budget c.in-Planar.left = subst (MayFind c.args.map.now c.args.budget) c.in-Planar.is c.in_ok-meet.ensures in
    let p = err_from_is_err_and c.from_residual-in_err-rounds-in-Planar.result c.from_residual-in_err-rounds-in-Planar.ensures.1 in
    let halt = c.in_err-rounds-in-Planar.field-0.0 in
    rw (p.1, p.2) (record {
      halts = may_halt c.args.map.now c.args.budget halt c.in_err-rounds-in-Planar.ensures.halts;
      tree = so_unless_memory halt _ (tree_is c.args.map.now c.args.tree c.args.tree c.new.result c.in_ok-fault.field-0 c.in_ok-fault.ensures.found c.in-None.is c.new.ensures refl c.requires.shallow);
      meets = met_so halt _ so.planar;
    })

pub returns-in_err-meet : goal.returns-in_err-meet
returns-in_err-meet c =
    let p = err_from_is_err_and c.from_residual-in_err-meet.result c.from_residual-in_err-meet.ensures.1 in
    rw (p.1, p.2) (record {
      halts = tt;
      tree = tt;
      meets = tt;
    })
