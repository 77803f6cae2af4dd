use Rattle.std.proofs.Common.{◌∙◌, sym}
use Rattle.tl_map.specs.Joined.Keeping.Told.{one_more}
use Rattle.tl_map.proofs.JoinedLemmas.TwinLemmas.{all_same, all_more}
use Rattle.tl_map.proofs.joined.told.note.Goals as goal

pub returns-in_ok-insert : goal.returns-in_ok-insert
returns-in_ok-insert c = λ rs at all.
    let found = c.copied.ensures ∙ c.get.ensures.value in
    all_more rs c.args.next.now c.in-Some.place c.args.twins.now c.insert.new.self c.one_more-more.result (sym c.place_of.ensures ∙ c.in-Some.is)
    (c.one_more-more.ensures ∙ (λ i. one_more (found i) (at i))) c.in_ok-insert.ensures.updates all

pub returns-in_default : goal.returns-in_default
returns-in_default c = λ rs at all. all_same rs c.args.next.now c.args.twins.now (sym c.place_of.ensures ∙ c.in_default.is) all
