use Rattle.std.proofs.Common.{sym, ◌∙◌}
use Rattle.std.proofs.lemmas.Result.{IfOk-weaker}
use Rattle.tl_list.proofs.Assembling.{listed_with_none, listed_lacking, same_lack, some_fault, undrawn_of_map}
use Rattle.tl_list.proofs.of_records.list_kept.Goals as goal

pub returns-in-Err-Faults-clause-listed : goal.returns-in-Err-Faults-clause-listed
returns-in-Err-Faults-clause-listed c = λ all rs whole asked has.
    let why = rw c.in-Err-Faults.field-0-is at (c.in-Err-Faults.ensures.stops rs has) in
    let found = some_fault rs c.in-Err-Faults.told.items why.0 why.1 in
    let same = same_lack all rs c.args.skipped c.args.options.complete c.lacking-lacking.result whole asked (c.lacking-lacking.ensures rs has) in
    IfOk-weaker c.list_told-in-Err-Faults.result _ _
    (λ listed told. listed_with_none c.args.options.faces all rs c.args.skipped c.lacking-lacking.result found.0 listed whole same (sym c.is_some.ensures ∙ c.if-is_some.false) found.1 told)
    (c.list_told-in-Err-Faults.ensures.listed rs (rw (c.deref-in-Err-Faults.ensures.value, c.in-Err-Faults.told-is) why.0))

pub returns-in-Err-Faults-clause-of_map : goal.returns-in-Err-Faults-clause-of_map
returns-in-Err-Faults-clause-of_map c =
    let rs = c.requires.0 in
    let why = rw c.in-Err-Faults.field-0-is at (c.in-Err-Faults.ensures.stops rs c.requires.1) in
    IfOk-weaker c.list_told-in-Err-Faults.result _ _ (λ listed told. undrawn_of_map c.args.options.faces rs c.lacking-lacking.result listed told)
    (c.list_told-in-Err-Faults.ensures.listed rs (rw (c.deref-in-Err-Faults.ensures.value, c.in-Err-Faults.told-is) why.0))

pub returns-then-is_some-clause-listed : goal.returns-then-is_some-clause-listed
returns-then-is_some-clause-listed c = λ all rs whole asked has.
    let same = same_lack all rs c.args.skipped c.args.options.complete c.lacking-lacking.result whole asked (c.lacking-lacking.ensures rs has) in
    IfOk-weaker c.list_told.result _ _
    (λ listed told. listed_lacking c.args.options.faces all rs c.args.skipped c.lacking-lacking.result listed whole same (sym c.is_some.ensures ∙ c.if-is_some.true) told)
    (c.list_told.ensures.listed rs (rw c.deref.ensures.value (c.in_ok-told.ensures rs has)))

pub returns-then-is_some-clause-of_map : goal.returns-then-is_some-clause-of_map
returns-then-is_some-clause-of_map c =
    let rs = c.requires.0 in
    IfOk-weaker c.list_told.result _ _ (λ listed told. undrawn_of_map c.args.options.faces rs c.lacking-lacking.result listed told)
    (c.list_told.ensures.listed rs (rw c.deref.ensures.value (c.in_ok-told.ensures rs c.requires.1)))
