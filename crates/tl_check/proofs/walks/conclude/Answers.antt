use Rattle.tl_check.proofs.Searched.{answered_behind, answered_within, ended_searched}
use Rattle.tl_check.proofs.Stopping.{ended_concludes}
use Rattle.tl_check.proofs.Walking.{shown_by}
use Rattle.tl_check.proofs.walks.conclude.Goals as goal

pub end_rounds-requires : goal.end_rounds-requires
end_rounds-requires c = c.requires

pub end_walks-requires-clause-held : goal.end_walks-requires-clause-held
end_walks-requires-clause-held c = (c.requires.held.0, c.in-Ok.ensures.holds c.requires.held.0 c.requires.held.1)

pub end_walks-requires-clause-takes : goal.end_walks-requires-clause-takes
end_walks-requires-clause-takes c = c.in-Ok.ensures.takes

pub look_at_suspects-requires : goal.look_at_suspects-requires
look_at_suspects-requires c = rw c.deref.ensures.value (c.in-Ok-end_walks.ensures.ended.walked c.requires.held.0 (c.in-Ok.ensures.holds c.requires.held.0 c.requires.held.1)).no_more.suspects

pub returns-in-Err-clause-concluded : goal.returns-in-Err-clause-concluded
returns-in-Err-clause-concluded c = rw c.answer.ensures (record {
  concludes = λ cert held. ended_concludes c.args.map.now cert c.in-Err.halt c.in-Err.ensures.halts;
  within = λ n searched. answered_within c.in-Err.halt _;
  behind = λ behind. answered_behind c.in-Err.halt _;
  allowed = ended_searched c.in-Err.halt _ c.in-Err.ensures.allowed;
})

pub returns-in-Ok-look_at_suspects-clause-concluded : goal.returns-in-Ok-look_at_suspects-clause-concluded
returns-in-Ok-look_at_suspects-clause-concluded c =
    let ended = c.in-Ok-end_walks.ensures.ended in
    record {
      concludes = λ cert held. (c.in-Ok-end_walks.count, shown_by c.args.map.now cert c.in-Ok-end_walks.count c.in-Ok-end_walks.left (ended.walked cert (c.in-Ok.ensures.holds cert held)) c.in-Ok-look_at_suspects.ensures.placed, c.report.ensures);
      within = λ n searched. ended.searched n (c.in-Ok.ensures.searched n searched);
      behind = λ behind. tt;
      allowed = tt;
    }

pub returns-in-Err-look_at_suspects-clause-concluded : goal.returns-in-Err-look_at_suspects-clause-concluded
returns-in-Err-look_at_suspects-clause-concluded c = rw c.answer-in-Err-look_at_suspects.ensures (record {
  concludes = λ cert held. ended_concludes c.args.map.now cert c.in-Err-look_at_suspects.halt c.in-Err-look_at_suspects.ensures.halts;
  within = λ n searched. answered_within c.in-Err-look_at_suspects.halt _;
  behind = λ behind. answered_behind c.in-Err-look_at_suspects.halt _;
  allowed = ended_searched c.in-Err-look_at_suspects.halt _ (λ cert held.
      let w = c.in-Ok-end_walks.ensures.ended.walked cert (c.in-Ok.ensures.holds cert held) in
      record { counts = w.valid.counts; tree = w.valid.tree });
})

pub returns-in-Err-end_walks-clause-concluded : goal.returns-in-Err-end_walks-clause-concluded
returns-in-Err-end_walks-clause-concluded c =
    let faulty = c.in-Err-end_walks.ensures.faulty in
    record {
      concludes = λ cert held. faulty.fault cert (c.in-Ok.ensures.holds cert held);
      within = λ n searched. tt;
      behind = λ behind. faulty.behind (c.in-Ok.ensures.behind behind);
      allowed = tt;
    }

pub returns-in-Err-clause-told : goal.returns-in-Err-clause-told
returns-in-Err-clause-told c = rw c.answer.ensures (answered_within c.in-Err.halt _)

pub returns-in-Ok-look_at_suspects-clause-told : goal.returns-in-Ok-look_at_suspects-clause-told
returns-in-Ok-look_at_suspects-clause-told c = (c.in-Ok-end_walks.ensures.ended.walked c.requires.held.0 (c.in-Ok.ensures.holds c.requires.held.0 c.requires.held.1)).no_more.gaps

pub returns-in-Err-look_at_suspects-clause-told : goal.returns-in-Err-look_at_suspects-clause-told
returns-in-Err-look_at_suspects-clause-told c = rw c.answer-in-Err-look_at_suspects.ensures (answered_within c.in-Err-look_at_suspects.halt _)
