use Rattle.std.proofs.Common.{◌≡◌, None, length, take, drop, get_or, add-one, subst, ap, ◌∙◌, arith}
use Rattle.std.specs.Prelude.{slice_get}
use Rattle.std.proofs.lemmas.Option.{slice_get-get_or}
use Rattle.tl_check_planar.specs.ByHeight.Heights.{widest}
use Rattle.tl_check_planar.specs.Keeping.Apart.{one_found}
use Rattle.tl_check_gaps.specs.Beside.{IsEastOf}
use Rattle.tl_check_sweep.specs.Keeping.Exact.{IsNotEastOf}
use Rattle.tl_check_active.specs.Blocks.Lined.{last_of}
use Rattle.tl_check_sweep.proofs.Putting.{last_taken, drop_at, drop_past}
use Rattle.tl_check_sweep.proofs.exact.place_of.Goals as goal

pub returns-clause-east : goal.returns-clause-east
returns-clause-east c = λ t e.
    let all : c.loop-k.k ≡ length c.args.numbers.now = (let past = c.loop-k-test.false in let most = c.loop-k.auto.k-end in omega (arith, past, most)) in
    c.loop-k.invariant t (ap (λ n. last_of (take n c.args.numbers.now)) all ∙ e)

pub loop-k-preserved : goal.loop-k-preserved
loop-k-preserved c = λ t e.
    let numbers = c.args.numbers.now in
    let k = c.loop-k.k in
    let last = rw add-one at e in
    subst (IsEastOf widest c.args.map.now.chains c.args.p)
    (last_taken numbers k (get_or numbers k 0) t (slice_get-get_or numbers k 0 c.loop-k-test.true) last) (c.lies_east.ensures.east c.if-not-lies_east.false)

pub returns-then-not-lies_east-clause-east : goal.returns-then-not-lies_east-clause-east
returns-then-not-lies_east-clause-east c = c.loop-k.invariant

pub returns-then-not-lies_east-clause-west : goal.returns-then-not-lies_east-clause-west
returns-then-not-lies_east-clause-west c = λ t e.
    let numbers = c.args.numbers.now in
    let k = c.loop-k.k in
    let s = get_or numbers k 0 in
    let first = ap (λ l. slice_get l 0) (drop_at numbers k s (slice_get-get_or numbers k 0 c.loop-k-test.true)) in
    subst (IsNotEastOf c.args.map.now.chains c.args.p) (one_found s t (slice_get (drop k numbers) 0) first e) (c.lies_east.ensures.other c.if-not-lies_east.true)

pub returns-clause-west : goal.returns-clause-west
returns-clause-west c = λ t e.
    let numbers = c.args.numbers.now in
    let none : slice_get (drop (length numbers) numbers) 0 ≡ None = ap (λ l. slice_get l 0) (drop_past numbers (length numbers) (omega arith)) in
    absurd (cc (none, e))
