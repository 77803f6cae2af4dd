use Rattle.std.proofs.Common.{sym, subst, arith}
use Rattle.tl_map_rules.specs.Faults.{IsTrueOf, IsFaultOfChains}
use Rattle.tl_map.proofs.UnbuiltLemmas.{faulty}
use Rattle.tl_map.proofs.LeftLemmas.{some_chain_told, some_items}
use Rattle.tl_map.proofs.build.chains_or_fault.Goals as goal

pub index-requires : goal.index-requires
index-requires c =
    let rs = c.requires.0 in
    let left = faulty _ c.in-Err-Faulty.field-0 c.in-Err-Faulty.field-0-is (c.in-Err-Faulty.ensures.left rs c.requires.1) in
    let why = faulty _ c.in-Err-Faulty.field-0 c.in-Err-Faulty.field-0-is (c.in-Err-Faulty.ensures.built rs c.requires.1) in
    let faults = c.in_ok-faults-in-Err-Faulty.faults in
    omega (arith, faults.ok.0, some_items faults.items (some_chain_told rs faults.items (c.in_ok-faults-in-Err-Faulty.ensures rs left) why))

pub returns-in_ok-faults-in-Err-Faulty-clause-built : goal.returns-in_ok-faults-in-Err-Faulty-clause-built
returns-in_ok-faults-in-Err-Faulty-clause-built c = λ rs h.
    let left = faulty _ c.in-Err-Faulty.field-0 c.in-Err-Faulty.field-0-is (c.in-Err-Faulty.ensures.left rs h) in
    let why = faulty _ c.in-Err-Faulty.field-0 c.in-Err-Faulty.field-0-is (c.in-Err-Faulty.ensures.built rs h) in
    let faults = c.in_ok-faults-in-Err-Faulty.faults in
    let all = c.in_ok-faults-in-Err-Faulty.ensures rs left in
    let some = some_items faults.items (some_chain_told rs faults.items all why) in
    subst (IsTrueOf rs) (sym c.index.ensures) (all.each 0 c.index.result.now some).0

pub returns-in_ok-faults-in-Err-Faulty-clause-of_chains : goal.returns-in_ok-faults-in-Err-Faulty-clause-of_chains
returns-in_ok-faults-in-Err-Faulty-clause-of_chains c =
    let rs = c.requires.0 in
    let left = faulty _ c.in-Err-Faulty.field-0 c.in-Err-Faulty.field-0-is (c.in-Err-Faulty.ensures.left rs c.requires.1) in
    let why = faulty _ c.in-Err-Faulty.field-0 c.in-Err-Faulty.field-0-is (c.in-Err-Faulty.ensures.built rs c.requires.1) in
    let faults = c.in_ok-faults-in-Err-Faulty.faults in
    let all = c.in_ok-faults-in-Err-Faulty.ensures rs left in
    let some = some_items faults.items (some_chain_told rs faults.items all why) in
    subst IsFaultOfChains (sym c.index.ensures) (all.each 0 c.index.result.now some).1
