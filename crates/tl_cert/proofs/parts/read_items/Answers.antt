use Rattle.std.proofs.Common.{◌≡◌, ◌∷◌, [], ◌+◌, ◌-◌, ℕ, length, length-append, subst, sym, ap, ◌∙◌, refl, arith}
use Rattle.arrayvec.specs.ArrayVec.{ArrayVec}
use Rattle.tl_cert.specs.Text.{numbered_line, item_lines}
use Rattle.tl_cert.specs.Keeping.Lines.{TakesLines}
use Rattle.tl_cert.specs.Keeping.Parts.{AreItems}
use Rattle.tl_cert.specs.Keeping.Steps.{tree, Runs}
use Rattle.tl_cert.specs.Keeping.Lines.{at}
use Rattle.tl_cert.proofs.PartLemmas.{takes_fetched, takes_more, line_missing, lines_more, numbers_more, items_run_on, stage_items}
use Rattle.tl_cert.proofs.AllowedLemmas.{allowed_item}
use Rattle.tl_cert.proofs.FailureLemmas.{fails_later}
use Rattle.std.proofs.lemmas.List.{length-map}
use Rattle.tl_cert.proofs.parts.read_items.Goals as goal

pub returns-in-Err-clause-reads : goal.returns-in-Err-clause-reads
returns-in-Err-clause-reads g c = λ v p r.
    let left : ℕ = c.args.count - c.loop-index.index in
    let whole : length c.loop-index.items.items + left ≡ c.args.count = omega (arith, c.loop-index.invariant.size) in
    line_missing {T = ArrayVec ℕ} g.R.Source.remaining (numbered_line (83 ∷ [])) _ (AreItems c.args.count) (λ v. item_lines v.items)
    (tree v p r c.args.count) (tree v p r left) (item_lines c.loop-index.items.items) (at c.args.lines.now c.args.source.now) (at c.loop-index.lines c.loop-index.source) (at c.read.new.self c.read.new.source) (at c.read.new.self c.read.new.source) c.in-Err.stop
    (subst (λ n. Runs (tree v p r n) (item_lines c.loop-index.items.items) (tree v p r left)) whole (items_run_on v p r left c.loop-index.items.items c.loop-index.invariant.numbers))
    c.loop-index.invariant.takes (allowed_item v p r left (omega arith)) (λ e. cc e) c.in-Err.ensures.reads
    (stage_items v p r left (omega arith) ∙ sym (stage_items v p r c.args.count (omega arith)))

pub loop-index-preserved : goal.loop-index-preserved
loop-index-preserved g c =
    let items = c.loop-index.items.items in
    let more = lines_more (83 ∷ []) items c.push.new.self.items c.in-Ok.item c.push.ensures.items in
    record {
      size = omega (arith, c.loop-index.invariant.size, ap length c.push.ensures.items, length-append items (c.in-Ok.item ∷ []));
      numbers = numbers_more items c.push.new.self.items c.in-Ok.item c.push.ensures.items c.loop-index.invariant.numbers c.in-Ok.ensures.reads.0.0;
      takes = subst (TakesLines g.R.Source.remaining (at c.args.lines.now c.args.source.now) (at c.read.new.self c.read.new.source)) (sym more)
          (takes_more g.R.Source.remaining (at c.args.lines.now c.args.source.now) (at c.loop-index.lines c.loop-index.source) (at c.read.new.self c.read.new.source) (item_lines items) (numbered_line (83 ∷ []) c.in-Ok.item ∷ []) c.loop-index.invariant.takes c.in-Ok.ensures.reads.1);
      failures = c.in-Ok.ensures.failures ∙ c.loop-index.invariant.failures;
      same = c.in-Ok.ensures.same_reference ∙ c.loop-index.invariant.same;
    }

pub returns-clause-reads : goal.returns-clause-reads
returns-clause-reads g c = λ version subtrees nodes.
    ((omega (arith, c.loop-index.invariant.size), c.loop-index.invariant.numbers), c.loop-index.invariant.takes)

pub loop-index-init : goal.loop-index-init
loop-index-init g c = record {
  size = omega (arith, c.len-taken.ensures);
  numbers = c.items_at_once-items.ensures.numbers;
  takes = takes_fetched g.R.Source.remaining c.args.source.now c.args.lines.now c.items_at_once-items.new.self _ c.items_at_once-items.ensures.takes;
  failures = refl;
  same = refl;
}

pub returns-in-Err-clause-failures : goal.returns-in-Err-clause-failures
returns-in-Err-clause-failures g c = fails_later ℕ (ArrayVec ℕ) _ _ _ c.in-Err.stop c.loop-index.invariant.failures c.in-Err.ensures.failures

pub returns-in-Err-clause-same_reference : goal.returns-in-Err-clause-same_reference
returns-in-Err-clause-same_reference g c = c.in-Err.ensures.same_reference ∙ c.loop-index.invariant.same

pub returns-clause-failures : goal.returns-clause-failures
returns-clause-failures g c = c.loop-index.invariant.failures

pub returns-clause-same_reference : goal.returns-clause-same_reference
returns-clause-same_reference g c = c.loop-index.invariant.same

pub items_at_once-items-requires-clause-few : goal.items_at_once-items-requires-clause-few
items_at_once-items-requires-clause-few g c = c.requires.count

pub items_at_once-items-requires-clause-lines : goal.items_at_once-items-requires-clause-lines
items_at_once-items-requires-clause-lines g c = omega (arith, c.requires.lines)

pub overflow_cast-taken : goal.overflow_cast-taken
overflow_cast-taken g c = omega (arith, c.len-taken.ensures, c.items_at_once-items.ensures.few, c.requires.count)

pub read-requires : goal.read-requires
read-requires g c =
    let so_far = c.loop-index.invariant in
    let lines = so_far.takes.counted in
    omega (arith, c.requires.lines, lines, length-map c.loop-index.items.items (numbered_line (83 ∷ [])), so_far.size, c.requires.count, c.loop-index-test.true)
