use Rattle.std.proofs.Common.{◌∙◌, sym}
use Rattle.std.proofs.lemmas.Bool.{true≢false}
use Rattle.tl_map_rules.specs.declared.entry.LinkEntry.{LinkEntry}
use Rattle.tl_map_rules.specs.Listing.Keeping.Keys.{link_fault}
use Rattle.tl_map_rules.proofs.ListingLemmas.NumberLemmas.{missing_none, missing_known, missing_more, missing_all}
use Rattle.tl_map_rules.proofs.listing.keys.push_unknown_links.Goals as goal
use Rattle.tl_map_rules.proofs.listing.keys.push_unknown_links.Goals.{then-not-has_key+in_ok-push, else-not-has_key}

pub loop-link-init : goal.loop-link-init
loop-link-init c = missing_none link_fault (λ (n : LinkEntry). n.key) c.args.keys.now c.args.faults.now.items

pub loop-link-preserved : goal.loop-link-preserved
loop-link-preserved c = elim c.if-not-has_key.branch [
  | then-not-has_key+in_ok-push w ↦ rw (w.faults-is, w.in_ok-push.ensures.items) (missing_more link_fault (λ (n : LinkEntry). n.key) c.args.links.now c.args.keys.now c.loop-link.link-index _ c.args.faults.now.items c.loop-link.faults.items c.loop-link-test.true (λ has. true≢false (sym (c.has_key.ensures.1 has) ∙ w.if-not-has_key.true)) c.loop-link.invariant)
  | else-not-has_key w ↦ rw w.faults-is (missing_known link_fault (λ (n : LinkEntry). n.key) c.args.links.now c.args.keys.now c.loop-link.link-index _ c.args.faults.now.items c.loop-link.faults.items c.loop-link-test.true (c.has_key.ensures.0 w.if-not-has_key.false) c.loop-link.invariant)
]

pub returns : goal.returns
returns c = missing_all link_fault (λ (n : LinkEntry). n.key) c.args.links.now c.args.keys.now c.loop-link.link-index _ _ c.loop-link-test.false c.loop-link.invariant
