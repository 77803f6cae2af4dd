use Rattle.std.proofs.Common.{◌∙◌, sym}
use Rattle.tl_map.proofs.JoinedLemmas.ApartLemmas.{apart_same, apart_more}
use Rattle.tl_map.proofs.joined.join.shapes_apart.Goals.{in-Some+in_ok-insert, in_default}
use Rattle.tl_map.proofs.joined.join.shapes_apart.Goals as goal

pub loop-told-preserved : goal.loop-told-preserved
loop-told-preserved c = elim c.match-apart_of.branch [
  | in-Some+in_ok-insert w ↦ rw w.apart-is (apart_more c.args.records.now c.loop-told.told-index _ c.loop-told.apart w.insert.new.self w.in-Some.tlid
      c.loop-told-test.true (sym w.in-Some.is ∙ c.apart_of.ensures) w.in_ok-insert.ensures.updates c.loop-told.invariant)
  | in_default w ↦ rw w.apart-is (apart_same c.args.records.now c.loop-told.told-index _ c.loop-told.apart
      c.loop-told-test.true (sym w.in_default.is ∙ c.apart_of.ensures) c.loop-told.invariant)
]
