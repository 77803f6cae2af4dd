use Rattle.std.proofs.Common.{All, length, refl, sym, subst, ◌∙◌}
use Rattle.std.proofs.lemmas.List.Elements.{All-nil}
use Rattle.tl_check_points.specs.Keeping.Balances.{AreAmong}
use Rattle.tl_check_points.proofs.Settling.{near_among, far_among, none_settled, one_settled, all_clear, one_balance}
use Rattle.tl_check_points.proofs.short.settle_all.Goals as goal

pub loop-place-init : goal.loop-place-init
loop-place-init c = record {
  nears = refl;
  fars = c.requires.alike;
  settled = none_settled c.args.journal.now c.args.short.now.items c.args.near.now c.args.far.now c.requires.none c.requires.alike c.requires.tallies;
  among = subst (All (AreAmong (length c.args.near.now))) (sym c.requires.none) (All-nil (AreAmong (length c.args.near.now)));
}

pub loop-place-preserved : goal.loop-place-preserved
loop-place-preserved c =
    let first = c.settle.ensures.nears in
    let second = c.settle-in-loop-place.ensures.nears in
    record {
      nears = second ∙ first ∙ c.loop-place.invariant.nears;
      fars = c.settle-in-loop-place.ensures.fars ∙ c.settle.ensures.fars ∙ c.loop-place.invariant.fars;
      settled =
          one_settled c.args.journal.now c.loop-place.place _ c.loop-place.short.items c.settle.new.short.items c.settle-in-loop-place.new.short.items
          c.loop-place.near c.settle.new.near c.settle-in-loop-place.new.near c.loop-place.far c.settle.new.far c.settle-in-loop-place.new.far
          c.loop-place-test.true (second ∙ first) c.loop-place.invariant.settled c.in_ok-settle.ensures.settled c.in_ok-settle-2.ensures.settled;
      among =
          subst (λ n. All (AreAmong n) c.settle-in-loop-place.new.short.items) (first ∙ c.loop-place.invariant.nears)
          (c.in_ok-settle-2.ensures.among (subst (λ n. All (AreAmong n) c.settle.new.short.items) (sym first)
          (c.in_ok-settle.ensures.among (subst (λ n. All (AreAmong n) c.loop-place.short.items) (sym c.loop-place.invariant.nears) c.loop-place.invariant.among))));
    }

pub settle-requires-clause-among : goal.settle-requires-clause-among
settle-requires-clause-among c =
    near_among (length c.args.near.now) _ c.args.journal.now c.loop-place.place _ c.loop-place.invariant.nears c.loop-place-test.true c.requires.among

pub settle-requires-in-loop-place-clause-among : goal.settle-requires-in-loop-place-clause-among
settle-requires-in-loop-place-clause-among c =
    far_among (length c.args.near.now) _ c.args.journal.now c.loop-place.place _ (c.settle.ensures.nears ∙ c.loop-place.invariant.nears) c.loop-place-test.true
    c.requires.among

pub returns-clause-one : goal.returns-clause-one
returns-clause-one c =
    one_balance c.args.journal.now c.loop-place.short.items c.loop-place.near c.loop-place.far c.loop-place.place c.loop-place-test.false
    (c.loop-place.invariant.fars ∙ sym c.loop-place.invariant.nears) c.loop-place.invariant.settled _ c.loop-place.invariant.nears c.loop-place.invariant.among
    c.requires.among

pub returns-clause-clear : goal.returns-clause-clear
returns-clause-clear c =
    all_clear c.args.journal.now c.loop-place.short.items c.loop-place.near c.loop-place.far c.loop-place.place c.loop-place-test.false
    (c.loop-place.invariant.fars ∙ sym c.loop-place.invariant.nears) c.loop-place.invariant.settled _ c.loop-place.invariant.nears
