use Rattle.std.proofs.Common.{length, ◌∙◌, rules}
use Rattle.tl_build_propose.proofs.MarkFacts.{free_marks}
use Rattle.tl_build_propose.proofs.counted.count_traced.Goals as goal

pub count_all-requires-clause-free : goal.count_all-requires-clause-free
count_all-requires-clause-free c =
    free_marks (length c.args.following.now) _ (c.deref_mut.ensures.value ∙ c.in_ok-taken.ensures.items_if_clones_equal (λ x e. search rules))
