use Rattle.std.proofs.Common.{◌∷◌, [], arith}
use Rattle.std.proofs.lemmas.List.{length-map}
use Rattle.tl_cert.specs.Text.{numbered_line, item_lines}
use Rattle.tl_cert.proofs.LineLemmas.{front_lines_taken}
use Rattle.tl_cert.proofs.lines.Lines.items_at_once.Goals as goal

pub returns-clause-few : goal.returns-clause-few
returns-clause-few c = c.front_items-items.ensures.few

pub returns-clause-numbers : goal.returns-clause-numbers
returns-clause-numbers c = c.front_items-items.ensures.numbers

pub invariant_of-self : goal.invariant_of-self
invariant_of-self c = record { few_digits = c.front_items-items.ensures.digits }

pub returns-clause-takes : goal.returns-clause-takes
returns-clause-takes c =
    front_lines_taken c.args.self.now _ (item_lines c.front_items-items.result.0.items) c.front_items-items.result.1 c.bytes.result.now c.bytes.ensures.value c.front_items-items.ensures.spelt c.consume.ensures
    (omega (arith, c.len.ensures, length-map c.front_items-items.result.0.items (numbered_line (83 ∷ []))))
