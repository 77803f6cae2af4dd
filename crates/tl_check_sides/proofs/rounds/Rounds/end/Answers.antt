use Rattle.std.proofs.Common.{◌≡◌, ℕ, ◌<◌, length, refl, sym, ap, ◌∙◌, arith}
use Rattle.tl_tree_index.specs.Keeping.Marked.{mark_at}
use Rattle.tl_check_sides.specs.Lists.{HoldOnce}
use Rattle.tl_check_sides.specs.Sides.{dart_count}
use Rattle.tl_check_sides.proofs.Ends.{hold_once, whole_of, keep_next}
use Rattle.tl_check_sides.proofs.WholeRounds.{AreWhole}
use Rattle.tl_check_sides.proofs.rounds.Rounds.end.Goals as goal

pub returns-in-Some-clause-fault : goal.returns-in-Some-clause-fault
returns-in-Some-clause-fault c = λ rounds taken.
    let missing : (c.in-Some.dart < length c.args.self.marks.items) × (mark_at c.args.self.marks.items c.in-Some.dart ≡ 0) = rw (← c.deref.ensures.value) c.in-Some.ensures.some in
    (omega (arith, missing.0, taken.marks.long), sym (taken.marks.marked c.in-Some.dart) ∙ missing.1)

pub returns-in-None-clause-whole : goal.returns-in-None-clause-whole
returns-in-None-clause-whole c = λ rounds taken.
    let all : (d : ℕ) → d < length c.args.self.marks.items → mark_at c.args.self.marks.items d ≡ 1 = rw (← c.deref.ensures.value) (c.in-None.ensures.none refl) in
    record {
      hold = hold_once (dart_count c.args.map.now.chains) rounds c.args.self.marks.items taken.marks all;
      one_node = taken.one_node;
      rising = taken.rising;
      apart = taken.apart;
    }

pub returns-in-None-clause-next : goal.returns-in-None-clause-next
returns-in-None-clause-next c = λ rounds taken.
    let all : (d : ℕ) → d < length c.args.self.marks.items → mark_at c.args.self.marks.items d ≡ 1 = rw (← c.deref.ensures.value) (c.in-None.ensures.none refl) in
    let hold : HoldOnce (dart_count c.args.map.now.chains) rounds = hold_once (dart_count c.args.map.now.chains) rounds c.args.self.marks.items taken.marks all in
    let whole : AreWhole c.args.map.now.chains rounds c.args.self.next.items = whole_of c.args.map.now.chains rounds c.args.self taken hold in
    let same : c.new.result.next.items ≡ c.args.self.next.items = c.new.ensures in
    let moved : AreWhole c.args.map.now.chains rounds c.new.result.next.items = rw same whole in
    keep_next c.args.map.now.chains rounds c.new.result (ap length same ∙ c.requires.sized.next) moved

pub returns-in-Some-clause-whole : goal.returns-in-Some-clause-whole
returns-in-Some-clause-whole c = tt

pub returns-in-Some-clause-next : goal.returns-in-Some-clause-next
returns-in-Some-clause-next c = tt

pub returns-in-None-clause-fault : goal.returns-in-None-clause-fault
returns-in-None-clause-fault c = tt
