use Rattle.std.proofs.Common.{◌≡◌, ◌++◌, refl, sym, ap, subst, ◌∙◌}
use Rattle.std.specs.Prelude.{slice_get, All}
use Rattle.tl_tree_index.specs.Hits.{times}
use Rattle.tl_check_planar.specs.ByHeight.Heights.{widest}
use Rattle.tl_check_planar.specs.ByHeight.Neighbours.{AreTested, EachTwo}
use Rattle.tl_check_active.specs.Blocks.Lined.{list_of, last_of}
use Rattle.tl_check_active.proofs.Lining.{joined}
use Rattle.tl_check_active.proofs.Passed.{passed_by}
use Rattle.tl_check_sweep.specs.Keeping.Exact.{BeginsAt, MayFollow}
use Rattle.tl_check_sweep.proofs.Exactly.{all_at, among, closes, few_of, first_follows, gone_are}
use Rattle.tl_check_sweep.proofs.Putting.{none_by}
use Rattle.tl_check_sweep.proofs.exact.pass_exactly.Goals as goal

pub list_by_direction-requires : goal.list_by_direction-requires
list_by_direction-requires c = record {
  begin = subst (All (BeginsAt c.args.map.now.chains c.args.p)) (sym c.deref.ensures.value) c.requires.before.on;
}

pub enter_exactly-requires-clause-first : goal.enter_exactly-requires-clause-first
enter_exactly-requires-clause-first c = λ s t e f.
    let chains = c.args.map.now.chains in
    let entering = c.list_by_direction.new.list.items in
    first_follows chains c.args.p (list_of c.args.line.now) c.args.outs.now.items c.args.ins.now.items c.requires.before c.go_exactly.new.line c.take_ended.new.line
    c.take_ended.new.outs.items c.in_ok-go_exactly.ensures.list c.in_ok-go_exactly.ensures.stands c.in_ok-take_ended.ensures.front
    c.in_ok-take_ended.ensures.back c.in_ok-take_ended.ensures.ended c.in_ok-take_ended.ensures.others s t e
    (all_at (BeginsAt chains c.args.p) entering 0 t c.in_ok-list_by_direction.ensures.begin (ap (λ l. slice_get l 0) (sym c.deref-2.ensures.value) ∙ f))

pub enter_exactly-requires-clause-among : goal.enter_exactly-requires-clause-among
enter_exactly-requires-clause-among c =
    let chains = c.args.map.now.chains in
    let entering = c.list_by_direction.new.list.items in
    subst (EachTwo (MayFollow chains)) (sym c.deref-2.ensures.value)
    (among chains entering
    (few_of c.args.ins.now.items entering (λ s. c.in_ok-list_by_direction.ensures.same s ∙ ap (times s) c.deref.ensures.value) c.requires.before.on_once)
    c.in_ok-list_by_direction.ensures.west)

pub meet_between-requires-clause-follow : goal.meet_between-requires-clause-follow
meet_between-requires-clause-follow c = λ s t e f.
    let chains = c.args.map.now.chains in
    let entering = c.list_by_direction.new.list.items in
    let none = none_by c.in_ok-found.field-0 (sym c.is_some.ensures ∙ c.if-is_some.false) in
    let front = c.in_ok-found.ensures.front none ∙ ap (λ l. c.take_ended.new.line.front ++ l) c.deref-2.ensures.value in
    let back = c.in_ok-found.ensures.back none in
    closes chains c.args.p (list_of c.args.line.now) c.args.outs.now.items c.args.ins.now.items c.requires.before c.go_exactly.new.line c.take_ended.new.line
    c.take_ended.new.outs.items c.in_ok-go_exactly.ensures.list c.in_ok-go_exactly.ensures.stands c.in_ok-take_ended.ensures.front
    c.in_ok-take_ended.ensures.back c.in_ok-take_ended.ensures.ended c.in_ok-take_ended.ensures.others entering c.in_ok-list_by_direction.ensures.begin s t (ap last_of (sym front) ∙ sym c.previous.ensures ∙ e)
    (ap (λ l. slice_get l 0) (sym back) ∙ sym c.next-east.ensures ∙ f)

pub returns-clause-passed : goal.returns-clause-passed
returns-clause-passed c =
    let chains = c.args.map.now.chains in
    let entering = c.list_by_direction.new.list.items in
    let gone = c.take_ended.new.outs.items in
    let stood = c.go_exactly.new.line in
    let after = c.enter_exactly.new.line in
    let none = none_by c.in_ok-found.field-0 (sym c.is_some.ensures ∙ c.if-is_some.false) in
    let none' = none_by c.meet_between.result (sym c.is_some-2.ensures ∙ c.if-is_some-2.false) in
    let front : after.front ≡ stood.front ++ entering =
    c.in_ok-found.ensures.front none ∙ ap (λ l. c.take_ended.new.line.front ++ l) c.deref-2.ensures.value ∙ ap (λ l. l ++ entering) c.in_ok-take_ended.ensures.front in
    let back : stood.back ≡ gone ++ after.back = c.in_ok-take_ended.ensures.back ∙ ap (λ l. gone ++ l) (sym (c.in_ok-found.ensures.back none)) in
    passed_by chains (list_of c.args.line.now) stood after c.args.outs.now.items gone c.args.ins.now.items entering gone entering _
    c.in_ok-go_exactly.ensures.list
    (gone_are chains c.args.p (list_of c.args.line.now) c.args.outs.now.items c.args.ins.now.items c.requires.before c.go_exactly.new.line c.take_ended.new.line
    c.take_ended.new.outs.items c.in_ok-go_exactly.ensures.list c.in_ok-go_exactly.ensures.stands c.in_ok-take_ended.ensures.front
    c.in_ok-take_ended.ensures.back c.in_ok-take_ended.ensures.ended c.in_ok-take_ended.ensures.others)
    (λ s. c.in_ok-list_by_direction.ensures.same s ∙ ap (times s) c.deref.ensures.value)
    refl refl
    (record {
      front = front;
      back = back;
      tested = λ west east.
          joined (AreTested widest chains) after.front after.back
          (c.in_ok-found.ensures.tested none (subst (EachTwo (AreTested widest chains)) (sym c.in_ok-take_ended.ensures.front) west)) east
          (λ s t e f. c.meet_between.ensures.none none' s t (c.previous.ensures ∙ e) (c.next-east.ensures ∙ f));
    })
    c.previous-west.ensures c.next-east.ensures

pub enter_exactly-requires-clause-proper : goal.enter_exactly-requires-clause-proper
enter_exactly-requires-clause-proper c = c.requires.before.proper

pub meet_between-requires-clause-proper : goal.meet_between-requires-clause-proper
meet_between-requires-clause-proper c = c.requires.before.proper
