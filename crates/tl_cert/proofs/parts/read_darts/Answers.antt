use Rattle.std.proofs.Common.{◌≡◌, ◌∷◌, [], ◌-◌, ◌≤◌, ◌++◌, ℕ, suc, Vec, length, length-append, subst, sym, ap, ◌∙◌, refl, arith}
use Rattle.std.specs.Global.{Global}
use Rattle.tl_cert.specs.Certificates.{IsNumber}
use Rattle.tl_cert.specs.Text.{numbered_line, dart_lines, darts_lines}
use Rattle.tl_cert.specs.Keeping.Lines.{TakesLines}
use Rattle.tl_cert.specs.Keeping.Parts.{AreDarts, letter_of, among}
use Rattle.tl_cert.specs.Keeping.Steps.{no_line}
use Rattle.tl_cert.specs.Keeping.Lines.{at}
use Rattle.tl_cert.proofs.PartLemmas.{takes_none, takes_more, takes_fetched, line_missing, lines_more, numbers_more, list_run, stage_lists}
use Rattle.tl_cert.proofs.AllowedLemmas.{allowed_list, allowed_dart, never_ended, Tells}
use Rattle.tl_cert.proofs.FailureLemmas.{fails_later}
use Rattle.std.proofs.lemmas.List.{length-map}
use Rattle.tl_cert.proofs.parts.read_darts.Goals as goal

pub returns-in-Err-clause-reads : goal.returns-in-Err-clause-reads
returns-in-Err-clause-reads g c = λ others.
    line_missing {T = Vec ℕ Global} g.R.Source.remaining (numbered_line (c.letter.result ∷ [])) _ AreDarts (λ v. darts_lines (letter_of c.args.lists ∷ []) v.items)
    (among c.args.lists (suc others) 0) (among c.args.lists (suc others) 0) [] (at c.args.lines.now c.args.source.now) (at c.args.lines.now c.args.source.now) (at c.read.new.self c.read.new.source) (at c.read.new.self c.read.new.source) c.in-Err.stop
    (no_line (among c.args.lists (suc others) 0)) (takes_none g.R.Source.remaining (at c.args.lines.now c.args.source.now))
    (λ l u step. subst (λ n. Tells n (λ m. IsNumber m × (1 ≤ m)) l) (sym c.letter.ensures) (allowed_list c.args.lists others l u step))
    (never_ended c.args.lists (suc others) 0) c.in-Err.ensures.reads refl

pub returns-in-Err-read-clause-reads : goal.returns-in-Err-read-clause-reads
returns-in-Err-read-clause-reads g c = λ others.
    let left : ℕ = c.in-Ok.count - c.loop-index.index in
    line_missing {T = Vec ℕ Global} g.R.Source.remaining (numbered_line (68 ∷ [])) _ AreDarts (λ v. darts_lines (letter_of c.args.lists ∷ []) v.items)
    (among c.args.lists (suc others) 0) (among c.args.lists others left) (numbered_line (letter_of c.args.lists ∷ []) c.in-Ok.count ∷ dart_lines c.loop-index.darts.items)
    (at c.args.lines.now c.args.source.now) (at c.loop-index.lines c.loop-index.source) (at c.read-in-loop-index.new.self c.read-in-loop-index.new.source) (at c.read-in-loop-index.new.self c.read-in-loop-index.new.source) c.in-Err-read.stop
    (list_run c.args.lists others c.in-Ok.count left c.loop-index.darts.items (omega (arith, c.in-Ok.ensures.reads.0.1)) c.in-Ok.ensures.reads.0.0
    (omega (arith, c.loop-index.invariant.size)) c.loop-index.invariant.numbers)
    c.loop-index.invariant.takes (allowed_dart c.args.lists others left (omega arith)) (never_ended c.args.lists others left) c.in-Err-read.ensures.reads
    (stage_lists c.args.lists others (suc others) left 0)

pub loop-index-preserved : goal.loop-index-preserved
loop-index-preserved g c =
    let darts = c.loop-index.darts.items in
    let front = numbered_line (letter_of c.args.lists ∷ []) c.in-Ok.count in
    let items : c.push.new.self.items ≡ darts ++ c.in-Ok-read.dart ∷ [] = c.in-Ok-push.ensures.items in
    let more = lines_more (68 ∷ []) darts c.push.new.self.items c.in-Ok-read.dart items in
    record {
      size = omega (arith, c.loop-index.invariant.size, ap length items, length-append darts (c.in-Ok-read.dart ∷ []));
      numbers = numbers_more darts c.push.new.self.items c.in-Ok-read.dart items c.loop-index.invariant.numbers c.in-Ok-read.ensures.reads.0.0;
      takes = subst (λ xs. TakesLines g.R.Source.remaining (at c.args.lines.now c.args.source.now) (at c.read-in-loop-index.new.self c.read-in-loop-index.new.source) (front ∷ xs)) (sym more)
          (takes_more g.R.Source.remaining (at c.args.lines.now c.args.source.now) (at c.loop-index.lines c.loop-index.source) (at c.read-in-loop-index.new.self c.read-in-loop-index.new.source) (front ∷ dart_lines darts) (numbered_line (68 ∷ []) c.in-Ok-read.dart ∷ []) c.loop-index.invariant.takes c.in-Ok-read.ensures.reads.1);
      failures = c.in-Ok-read.ensures.failures ∙ c.loop-index.invariant.failures;
      same = c.in-Ok-read.ensures.same_reference ∙ c.loop-index.invariant.same;
    }

pub returns-clause-reads : goal.returns-clause-reads
returns-clause-reads g c = λ others.
    let so_far = c.loop-index.invariant in
    let darts = c.loop-index.darts.items in
    let counted : c.in-Ok.count ≡ length darts = omega (arith, so_far.size, c.len-taken.ensures, c.in-Ok-darts_at_once.ensures.few) in (
      (record { some = omega (arith, counted, c.in-Ok.ensures.reads.0.1); counted = omega (arith, counted, c.in-Ok.ensures.reads.0.0) }, so_far.numbers),
      subst (λ n. TakesLines g.R.Source.remaining (at c.args.lines.now c.args.source.now) (at c.loop-index.lines c.loop-index.source) (numbered_line (letter_of c.args.lists ∷ []) n ∷ dart_lines darts)) counted so_far.takes,
    )

pub loop-index-init : goal.loop-index-init
loop-index-init g c =
    let darts = c.in-Ok-darts_at_once.darts.items in
    let first =
    subst (λ l. TakesLines g.R.Source.remaining (at c.args.lines.now c.args.source.now) (at c.read.new.self c.read.new.source) (numbered_line (l ∷ []) c.in-Ok.count ∷ []))
    c.letter.ensures c.in-Ok.ensures.reads.1
    in
    let others = takes_fetched g.R.Source.remaining c.read.new.source c.read.new.self c.darts_at_once.new.self (dart_lines darts) c.in-Ok-darts_at_once.ensures.takes in
    record {
      size = omega (arith, c.len-taken.ensures);
      numbers = c.in-Ok-darts_at_once.ensures.numbers;
      takes = takes_more g.R.Source.remaining (at c.args.lines.now c.args.source.now) (at c.read.new.self c.read.new.source) (at c.darts_at_once.new.self c.read.new.source)
          (numbered_line (letter_of c.args.lists ∷ []) c.in-Ok.count ∷ []) (dart_lines darts) first others;
      failures = c.in-Ok.ensures.failures;
      same = c.in-Ok.ensures.same_reference;
    }

pub returns-in-Err-clause-failures : goal.returns-in-Err-clause-failures
returns-in-Err-clause-failures g c = fails_later ℕ (Vec ℕ Global) _ _ _ c.in-Err.stop refl c.in-Err.ensures.failures

pub returns-in-Err-clause-same_reference : goal.returns-in-Err-clause-same_reference
returns-in-Err-clause-same_reference g c = c.in-Err.ensures.same_reference

pub returns-in-Err-darts_at_once-clause-reads : goal.returns-in-Err-darts_at_once-clause-reads
returns-in-Err-darts_at_once-clause-reads g c = λ others. tt

pub returns-in-Err-darts_at_once-clause-failures : goal.returns-in-Err-darts_at_once-clause-failures
returns-in-Err-darts_at_once-clause-failures g c = c.in-Ok.ensures.failures

pub returns-in-Err-darts_at_once-clause-same_reference : goal.returns-in-Err-darts_at_once-clause-same_reference
returns-in-Err-darts_at_once-clause-same_reference g c = c.in-Ok.ensures.same_reference

pub returns-in-Err-push-clause-reads : goal.returns-in-Err-push-clause-reads
returns-in-Err-push-clause-reads g c = λ others. tt

pub returns-in-Err-push-clause-failures : goal.returns-in-Err-push-clause-failures
returns-in-Err-push-clause-failures g c = c.in-Ok-read.ensures.failures ∙ c.loop-index.invariant.failures

pub returns-in-Err-push-clause-same_reference : goal.returns-in-Err-push-clause-same_reference
returns-in-Err-push-clause-same_reference g c = c.in-Ok-read.ensures.same_reference ∙ c.loop-index.invariant.same

pub returns-in-Err-read-clause-failures : goal.returns-in-Err-read-clause-failures
returns-in-Err-read-clause-failures g c = fails_later ℕ (Vec ℕ Global) _ _ _ c.in-Err-read.stop c.loop-index.invariant.failures c.in-Err-read.ensures.failures

pub returns-in-Err-read-clause-same_reference : goal.returns-in-Err-read-clause-same_reference
returns-in-Err-read-clause-same_reference g c = c.in-Err-read.ensures.same_reference ∙ c.loop-index.invariant.same

pub returns-clause-failures : goal.returns-clause-failures
returns-clause-failures g c = c.loop-index.invariant.failures

pub returns-clause-same_reference : goal.returns-clause-same_reference
returns-clause-same_reference g c = c.loop-index.invariant.same

pub read-requires : goal.read-requires
read-requires g c = omega (arith, c.requires)

pub darts_at_once-requires : goal.darts_at_once-requires
darts_at_once-requires g c = let counted = c.in-Ok.ensures.reads.1.counted in omega (arith, c.requires, counted)

pub overflow_cast-taken : goal.overflow_cast-taken
overflow_cast-taken g c = omega (arith, c.len-taken.ensures, c.in-Ok-darts_at_once.ensures.few, c.in-Ok.ensures.reads.0.0)

pub read-requires-in-loop-index : goal.read-requires-in-loop-index
read-requires-in-loop-index g c =
    let so_far = c.loop-index.invariant in
    let lines = so_far.takes.counted in
    omega (arith, c.requires, lines, length-map c.loop-index.darts.items (numbered_line (68 ∷ [])), so_far.size, c.in-Ok.ensures.reads.0.0, c.loop-index-test.true)
