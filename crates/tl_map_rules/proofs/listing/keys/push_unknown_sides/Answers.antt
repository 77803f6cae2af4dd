use Rattle.std.proofs.Common.{◌∙◌, sym}
use Rattle.std.proofs.lemmas.Bool.{true≢false}
use Rattle.tl_map_rules.specs.declared.listing.kept.NamedSide.{NamedSide}
use Rattle.tl_map_rules.specs.Listing.Keeping.Keys.{side_fault}
use Rattle.tl_map_rules.proofs.ListingLemmas.NumberLemmas.{missing_none, missing_known, missing_more, missing_all}
use Rattle.tl_map_rules.proofs.listing.keys.push_unknown_sides.Goals as goal
use Rattle.tl_map_rules.proofs.listing.keys.push_unknown_sides.Goals.{then-not-has_key+in_ok-push, else-not-has_key}

pub loop-name-init : goal.loop-name-init
loop-name-init c = missing_none side_fault (λ (n : NamedSide). n.key) c.args.keys.now c.args.faults.now.items

pub loop-name-preserved : goal.loop-name-preserved
loop-name-preserved c = elim c.if-not-has_key.branch [
  | then-not-has_key+in_ok-push w ↦ rw (w.faults-is, w.in_ok-push.ensures.items) (missing_more side_fault (λ (n : NamedSide). n.key) c.args.names.now c.args.keys.now c.loop-name.name-index _ c.args.faults.now.items c.loop-name.faults.items c.loop-name-test.true (λ has. true≢false (sym (c.has_key.ensures.1 has) ∙ w.if-not-has_key.true)) c.loop-name.invariant)
  | else-not-has_key w ↦ rw w.faults-is (missing_known side_fault (λ (n : NamedSide). n.key) c.args.names.now c.args.keys.now c.loop-name.name-index _ c.args.faults.now.items c.loop-name.faults.items c.loop-name-test.true (c.has_key.ensures.0 w.if-not-has_key.false) c.loop-name.invariant)
]

pub returns : goal.returns
returns c = missing_all side_fault (λ (n : NamedSide). n.key) c.args.names.now c.args.keys.now c.loop-name.name-index _ _ c.loop-name-test.false c.loop-name.invariant
