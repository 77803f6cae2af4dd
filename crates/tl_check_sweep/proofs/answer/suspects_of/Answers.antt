use Rattle.std.proofs.Common.{⊎_elim, inl, inr}
use Rattle.std.proofs.lemmas.Option.{slice_get_within}
use Rattle.std.proofs.lemmas.Result.{IfOk-weaker}
use Rattle.tl_check_sweep.proofs.answer.suspects_of.Goals as goal

pub returns-clause-others : goal.returns-clause-others
returns-clause-others c =
    IfOk-weaker c.list_unmarked.result _ _
    (λ suspects others p polygon is.
    ⊎_elim (λ listed. inl listed) (λ marked. inr (c.requires.marks p marked polygon is)) (others p (slice_get_within c.args.map.now.polygons p polygon is)))
    c.list_unmarked.ensures.others
