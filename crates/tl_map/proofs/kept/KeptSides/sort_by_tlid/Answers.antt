use Rattle.std.proofs.lemmas.Result.{on_ok_weaker}
use Rattle.std.proofs.lemmas.List.Sorted.{IsPermutation-map, All-permutation}
use Rattle.tl_map.specs.Keeping.Kept.{kept_in, IsRow}
use Rattle.tl_map.proofs.KeptLemmas.{by_tlid}
use Rattle.tl_map.proofs.kept.KeptSides.sort_by_tlid.Goals as goal

pub invariant_of-self : goal.invariant_of-self
invariant_of-self c = All-permutation (IsRow c.self.inside.more.items) _ _ c.sort_rows.ensures.moved c.self.invariant

pub returns-clause-ordered : goal.returns-clause-ordered
returns-clause-ordered c =
    on_ok_weaker c.sort_rows.result (by_tlid c.self.inside.more.items c.sort_rows.new.rows.items) c.sort_rows.ensures.ordered

pub returns-clause-moved : goal.returns-clause-moved
returns-clause-moved c = rw (← c.self.view_is) (IsPermutation-map (kept_in c.self.inside.more.items) _ _ c.sort_rows.ensures.moved)
