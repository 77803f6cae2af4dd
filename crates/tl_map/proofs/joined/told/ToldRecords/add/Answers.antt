use Rattle.std.proofs.Common.{◌∙◌, ap, length, List, ◌++◌, ◌∷◌, [], arith}
use Rattle.tl_record.specs.declared.record.Record.{Record}
use Rattle.tl_map.proofs.joined.told.ToldRecords.add.Goals as goal

pub returns : goal.returns
returns c = λ rs h. record {
  records = c.in_ok-push.ensures.items ∙ ap (λ (xs : List Record). xs ++ c.args.next.now ∷ []) h.records;
  twins = c.in_ok-note.ensures rs (let same = ap length h.records in omega (arith, c.len.ensures, same, c.args.self.now.records.ok.0)) h.twins;
}
