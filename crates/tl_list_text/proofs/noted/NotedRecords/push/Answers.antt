use Rattle.tl_list_text.proofs.NotedLemmas.{one_more, rows_more}
use Rattle.tl_list_text.proofs.noted.NotedRecords.push.Goals as goal

pub invariant_of-self-2 : goal.invariant_of-self-2
invariant_of-self-2 c =
    rows_more c.self.inside.beside c.keep.new.self c.self.inside.rows.items _ _ c.in_ok-holds.ensures.grows c.self.invariant c.in_ok-holds.ensures.held c.in_ok-push.ensures.items

pub returns : goal.returns
returns c =
    rw (← c.self.view_is) (one_more c.self.inside.beside c.keep.new.self c.self.inside.rows.items _ _ c.args.record.now c.in_ok-holds.ensures.grows c.self.invariant c.in_ok-holds.ensures.same c.in_ok-push.ensures.items)
