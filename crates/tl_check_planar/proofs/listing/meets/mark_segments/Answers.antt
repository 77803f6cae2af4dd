use Rattle.std.proofs.Common.{[], ◌∷◌, ◌++◌, length, ap, sym, ◌∙◌, arith}
use Rattle.tl_check_planar.proofs.Numbering.{below_total}
use Rattle.tl_check_planar.proofs.ListingLemmas.Pushing.{pushed}
use Rattle.std.proofs.lemmas.List.{length_push}
use Rattle.tl_check_planar.proofs.ListingLemmas.Remaining.{marked_more}
use Rattle.tl_check_planar.proofs.listing.meets.mark_segments.Goals as goal

pub loop-s-preserved : goal.loop-s-preserved
loop-s-preserved c =
    let grown = pushed c.push.result c.loop-s.segments.items c.push.new.self.items _ c.push.ensures.items (sym c.is_err.ensures.value ∙ c.if-is_err.false) in
    record {
      long = let long = c.loop-s.invariant.long in omega (arith, ap length grown, length_push c.loop-s.segments.items c.is_marked.result, long);
      are = marked_more c.args.map.now.chains c.args.marks.now c.loop-s.segments.items c.push.new.self.items c.loop-s.s c.segment_chain.result
          c.segment_chain.ensures.0 c.segment_chain.ensures.1 c.loop-s.invariant.long (grown ∙ ap (λ m. c.loop-s.segments.items ++ m ∷ []) c.is_marked.ensures)
          c.loop-s.invariant.are;
    }

pub returns : goal.returns
returns c = λ s d k of.
    let known = below_total c.args.map.now.chains s d k of in
    c.loop-s.invariant.are s d k (omega (arith, known, c.loop-s-test.false, c.segments-count.ensures.count)) of
