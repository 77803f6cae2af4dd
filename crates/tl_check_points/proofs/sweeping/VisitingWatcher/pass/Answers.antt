use Rattle.std.proofs.Common.{◌≡◌, ◌++◌, ℕ, List, IsTrue, false, length, refl, subst}
use Rattle.std.specs.Prelude.{IfSome}
use Rattle.tl_check_active.specs.Blocks.Lined.{list_of}
use Rattle.tl_check_active.specs.Passed.{HasPassed}
use Rattle.tl_check_active.proofs.BlocksLemmas.Answered.{ok_more}
use Rattle.tl_check_gaps.specs.Keeping.Facing.{raised}
use Rattle.tl_check_points.specs.Keeping.Labels.{AreLabelled, IsOnce}
use Rattle.tl_check_points.specs.Keeping.UnderWay.{AreVisits, IsUnderWay}
use Rattle.tl_check_points.specs.declared.sweeping.Visited.{Visited}
use Rattle.tl_check_points.proofs.Visiting.{ok_both, goes_on, visits_stay}
use Rattle.tl_check_points.proofs.sweeping.VisitingWatcher.pass.Goals as goal

pub returns-clause-passed : goal.returns-clause-passed
returns-clause-passed c =
    let m = c.args.map.now in
    let sites = c.args.self.now.sites.now in
    let old = c.args.notes.now in
    let line = c.pass.new.line in
    let outs = c.pass.new.outs.items in
    let ins = c.pass.new.ins.items in
    let new : Visited = record { labels = c.label_vertex.new.labels; points = c.args.notes.now.points; visits = c.args.notes.now.visits; front = c.label_vertex.new.front } in
    let passed = subst (λ p. IfSome p (HasPassed c.args.map.now.chains (list_of c.args.line.now) c.pass.new.line c.args.outs.now.items c.pass.new.outs.items
    c.args.ins.now.items c.pass.new.ins.items)) c.in-Some.is c.in_ok-_both.ensures in
    ok_both c.label_vertex.result _ _ (λ done. IsTrue done → IsUnderWay sites new m c.args.events.now c.args._to (list_of line))
    (λ done kept labelled h.
    goes_on sites m c.args.events.now c.args.from c.args._to (list_of c.args.line.now) line c.args.outs.now.items outs c.args.ins.now.items ins
    c.in-Some._both old new c.requires.keeps c.requires.gathered passed kept refl
    (subst (λ o. (west : List ℕ) → c.pass.new.line.front ≡ west ++ c.pass.new.ins.items → IsOnce (list_of c.pass.new.line) →
    AreLabelled (length m.polygons) (raised m.chains) old.labels.gaps.items old.labels.labels.items (west ++ (o ++ c.pass.new.line.back)) →
    AreLabelled (length m.polygons) (raised m.chains) new.labels.gaps.items new.labels.labels.items (list_of c.pass.new.line)) c.deref.ensures.value
    (subst (λ i. (west : List ℕ) → c.pass.new.line.front ≡ west ++ i → IsOnce (list_of c.pass.new.line) →
    AreLabelled (length m.polygons) (raised m.chains) old.labels.gaps.items old.labels.labels.items (west ++ (c.deref.result.now ++ c.pass.new.line.back)) →
    AreLabelled (length m.polygons) (raised m.chains) new.labels.gaps.items new.labels.labels.items (list_of c.pass.new.line)) c.deref-2.ensures.value
    (labelled h))))
    c.label_vertex.ensures.kept c.label_vertex.ensures.labelled

pub returns-clause-stopped : goal.returns-clause-stopped
returns-clause-stopped c =
    let old = c.args.notes.now in
    let new : Visited = record { labels = c.label_vertex.new.labels; points = c.args.notes.now.points; visits = c.args.notes.now.visits; front = c.label_vertex.new.front } in
    ok_more c.label_vertex.result _ (λ done. done ≡ false → AreVisits c.args.self.now.sites.now new c.args.map.now)
    (λ done kept e. visits_stay c.args.self.now.sites.now c.args.map.now old new kept refl c.requires.keeps.visits) c.label_vertex.ensures.kept
