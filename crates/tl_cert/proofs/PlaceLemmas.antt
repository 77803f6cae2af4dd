-- Parts that are given one after the other, and the lines between them.
use Rattle.std.proofs.Common.{◌≡◌, ◌⊎◌, inl, inr, ℕ, zero, suc, ◌+◌, ◌-◌, ◌*◌, ◌^◌, ◌<◌, ◌≤◌, List, [], ◌∷◌, ◌++◌, Vec, length, length-append, All, Option, None, Some, Result, Ok, Err, refl, sym, ap, subst, ◌∙◌, arith, append_assoc, append-nil, codes}
use Rattle.std.specs.Global.{Global}
use Rattle.std.specs.Option.{IfSome}
use Rattle.std.specs.Io.KnownBytes.{Consumes}
use Rattle.std.proofs.lemmas.List.{length-map}
use Rattle.std.proofs.lemmas.List.Elements.{All-nil, All-cons, All-append, All-head, All-tail}
use Rattle.tl_record.specs.Lines.{joined_lines}
use Rattle.tl_tree_index.specs.declared.node.TreeNode.{TreeNode}
use Rattle.tl_tree_index.specs.declared.node.TreeNode.TheVariants.{Inner, Leaf}
use Rattle.tl_cert.specs.declared.certificate.Counts.{Counts}
use Rattle.tl_cert.specs.declared.place.NextPart.{NextPart}
use Rattle.tl_cert.specs.declared.place.NextPart.TheVariants.{Start, Counted, Treed, Rounds, Walks}
use Rattle.tl_cert.specs.declared.place.CertPart.{CertPart}
use Rattle.tl_cert.specs.declared.place.CertPart.TheVariants as part
use Rattle.tl_cert.specs.declared.stop.CertStop.{CertStop}
use Rattle.tl_cert.specs.declared.stop.CertStop.TheVariants.{Text, Memory, Device}
use Rattle.tl_cert.specs.Certificates.{TheCertificate, IsCertificate, IsNumber, IsNode, IsNodeInRange, IsDartList, AreDartLists}
use Rattle.tl_cert.specs.Text.{numbered_line, item_lines, nodes_lines, tree_lines, rounds_lines, walks_lines, darts_lines, all_darts_lines, end_line, head_line, counts_line}
use Rattle.tl_cert.specs.Given.{AreGiven, given_lines, with_part, parts_left, IsRoundOrWalk, IsWalk, LeadsTo, MayEnd}
use Rattle.tl_cert.specs.Keeping.Lines.{LineState, taken, untaken, TakesLines, ReadsLine, EndsText}
use Rattle.tl_cert.specs.Keeping.Parts.{IsTree, AreDarts, AreVersionedCounts, versioned_lines, IsStuckAfter, Reads}
use Rattle.tl_cert.specs.Keeping.Places.{Adds, Ends, ReadsPart, FitsPlace, state_at}
use Rattle.tl_cert.specs.Keeping.Steps.{State, rounds, walks, ended, Steps, at_end, Runs, no_line, first_line, stage}
use Rattle.tl_cert.proofs.PartLemmas.{takes_none, takes_more, stuck_later, line_missing}
use Rattle.tl_cert.proofs.AllowedLemmas.{Tells}
use Rattle.tl_cert.proofs.StepLemmas.{leads}

no_lists : AreDartLists []
no_lists = record { counted = omega arith; each = All-nil IsDartList }

-- the counts
pub add_counts : (counts : Counts) (version : ℕ) → AreVersionedCounts (counts, version) → Adds Start (Counted version) (part.Counts counts version) (versioned_lines (counts, version))
add_counts counts version are c given =
    let made : IsCertificate (with_part c (part.Counts counts version)) = (
      record {
        version = are.1;
        preorder = inl given.0;
        counted = omega (arith, ap length given.0);
        nodes = subst (All (IsNode version)) (sym given.0) (All-nil (IsNode version));
        rounds = subst AreDartLists (sym given.1) no_lists;
        walks = subst AreDartLists (sym given.2) no_lists;
      },
      record {
        counts = are.0;
        tree = subst (All IsNodeInRange) (sym given.0) (All-nil IsNodeInRange);
        rounds = subst (All (All IsNumber)) (sym given.1) (All-nil (All IsNumber));
        walks = subst (All (All IsNumber)) (sym given.2) (All-nil (All IsNumber));
      },
    ) in
    ((made, refl, given.0, given.1, given.2), refl)

-- the tree
pub add_tree : (version : ℕ) (nodes : Vec TreeNode Global) → IsTree version nodes.items → Adds (Counted version) (Treed version) (part.Tree nodes) (tree_lines version nodes.items)
add_tree version nodes are c given =
    let old = given.0 in
    let made : IsCertificate (with_part c (part.Tree nodes)) = (
      record {
        version = old.0.version;
        preorder = are.preorder;
        counted = are.few;
        nodes = subst (λ v. All (IsNode v) nodes.items) (sym given.1) are.each;
        rounds = old.0.rounds;
        walks = old.0.walks;
      },
      record { counts = old.1.counts; tree = are.range; rounds = old.1.rounds; walks = old.1.walks },
    ) in
    ((made, given.1, given.3, given.4), ap (λ v. head_line c.version ∷ counts_line c.counts ∷ tree_lines v nodes.items) given.1)

-- a list of darts more
all_darts_lines-append : (word : List ℕ) (lists : List (List ℕ)) (darts : List ℕ) → all_darts_lines word (lists ++ darts ∷ []) ≡ all_darts_lines word lists ++ darts_lines word darts
all_darts_lines-append word [] darts = append-nil (darts_lines word darts)
all_darts_lines-append word (first ∷ lists) darts =
    ap (λ (ls : List (List ℕ)). darts_lines word first ++ ls) (all_darts_lines-append word lists darts)
    ∙ sym (append_assoc (darts_lines word first) (all_darts_lines word lists) (darts_lines word darts))

lists_more : (lists : List (List ℕ)) (darts : List ℕ) (left : ℕ) → AreDartLists lists → IsNumber (length lists + suc left) → IsDartList darts → AreDartLists (lists ++ darts ∷ [])
lists_more lists darts left are small one = record {
  counted = omega (arith, length-append lists (darts ∷ []), small);
  each = All-append IsDartList lists (darts ∷ []) are.each (All-cons IsDartList darts [] one (All-nil IsDartList));
}

numbers_in : (lists : List (List ℕ)) (darts : List ℕ) → All (All IsNumber) lists → All IsNumber darts → All (All IsNumber) (lists ++ darts ∷ [])
numbers_in lists darts all one = All-append (All IsNumber) lists (darts ∷ []) all (All-cons (All IsNumber) darts [] one (All-nil (All IsNumber)))

one_counted : (lists : List (List ℕ)) (darts : List ℕ) (left : ℕ) → length (lists ++ darts ∷ []) + left ≡ length lists + suc left
one_counted lists darts left = omega (arith, length-append lists (darts ∷ []))

pub add_round : (left : ℕ) (darts : Vec ℕ Global) → AreDarts darts → Adds (Rounds (suc left)) (Rounds left) (part.Round darts) (darts_lines (codes "R") darts.items)
add_round left darts are c given =
    let old = given.0 in
    let same = one_counted c.rounds darts.items left in
    let front = head_line c.version ∷ counts_line c.counts ∷ tree_lines c.version c.tree in
    let made : IsCertificate (with_part c (part.Round darts)) = (
      record {
        version = old.0.version;
        preorder = old.0.preorder;
        counted = old.0.counted;
        nodes = old.0.nodes;
        rounds = lists_more c.rounds darts.items left old.0.rounds given.1 are.0;
        walks = old.0.walks;
      },
      record { counts = old.1.counts; tree = old.1.tree; rounds = numbers_in c.rounds darts.items old.1.rounds are.1; walks = old.1.walks },
    ) in (
      (made, subst IsNumber (sym same) given.1, given.2),
      ap (λ n. front ++ rounds_lines n (c.rounds ++ darts.items ∷ [])) same
          ∙ ap (λ (ls : List (List ℕ)). front ++ numbered_line (codes "N") (length c.rounds + suc left) ∷ ls) (all_darts_lines-append (codes "R") c.rounds darts.items)
          ∙ sym (append_assoc front (rounds_lines (length c.rounds + suc left) c.rounds) (darts_lines (codes "R") darts.items)),
    )

pub add_walk : (left : ℕ) (darts : Vec ℕ Global) → AreDarts darts → Adds (Walks (suc left)) (Walks left) (part.Walk darts) (darts_lines (codes "K") darts.items)
add_walk left darts are c given =
    let old = given.0 in
    let same = one_counted c.walks darts.items left in
    let front = (head_line c.version ∷ counts_line c.counts ∷ tree_lines c.version c.tree) ++ rounds_lines (length c.rounds) c.rounds in
    let made : IsCertificate (with_part c (part.Walk darts)) = (
      record {
        version = old.0.version;
        preorder = old.0.preorder;
        counted = old.0.counted;
        nodes = old.0.nodes;
        rounds = old.0.rounds;
        walks = lists_more c.walks darts.items left old.0.walks given.1 are.0;
      },
      record { counts = old.1.counts; tree = old.1.tree; rounds = old.1.rounds; walks = numbers_in c.walks darts.items old.1.walks are.1 },
    ) in (
      (made, subst IsNumber (sym same) given.1),
      ap (λ n. front ++ walks_lines n (c.walks ++ darts.items ∷ [])) same
          ∙ ap (λ (ls : List (List ℕ)). front ++ numbered_line (codes "W") (length c.walks + suc left) ∷ ls) (all_darts_lines-append (codes "K") c.walks darts.items)
          ∙ sym (append_assoc front (walks_lines (length c.walks + suc left) c.walks) (darts_lines (codes "K") darts.items)),
    )

-- the numbers of rounds and of walks
abbrev pub Passes : NextPart → NextPart → List ℕ → Type 0
Passes place next line = (c : TheCertificate) → AreGiven place c → AreGiven next c × (given_lines next c ≡ given_lines place c ++ line ∷ [])

pub pass_rounds : (version m : ℕ) → IsNumber m → Passes (Treed version) (Rounds m) (numbered_line (codes "N") m)
pass_rounds version m small c given =
    let front = head_line c.version ∷ counts_line c.counts ∷ tree_lines c.version c.tree in
    let same : length c.rounds + m ≡ m = let none = ap length given.2 in omega (arith, none) in (
      (given.0, subst IsNumber (sym same) small, given.3),
      ap (λ n. front ++ rounds_lines n c.rounds) same ∙ ap (λ (ls : List (List ℕ)). front ++ numbered_line (codes "N") m ∷ all_darts_lines (codes "R") ls) given.2,
    )

pub pass_walks : (m : ℕ) → IsNumber m → Passes (Rounds 0) (Walks m) (numbered_line (codes "W") m)
pass_walks m small c given =
    let front = head_line c.version ∷ counts_line c.counts ∷ tree_lines c.version c.tree in
    let same : length c.walks + m ≡ m = let none = ap length given.2 in omega (arith, none) in
    let all : length c.rounds ≡ length c.rounds + 0 = omega arith in (
      (given.0, subst IsNumber (sym same) small),
      ap (λ n. front ++ rounds_lines (length c.rounds) c.rounds ++ walks_lines n c.walks) same
          ∙ ap (λ (ls : List (List ℕ)). front ++ rounds_lines (length c.rounds) c.rounds ++ numbered_line (codes "W") m ∷ all_darts_lines (codes "K") ls) given.2
          ∙ ap (λ n. front ++ rounds_lines n c.rounds ++ numbered_line (codes "W") m ∷ []) all,
    )

-- the end
pub ends_here : Ends (Walks 0) (end_line ∷ [])
ends_here c given =
    let front = (head_line c.version ∷ counts_line c.counts ∷ tree_lines c.version c.tree) ++ rounds_lines (length c.rounds) c.rounds in
    let all : length c.walks ≡ length c.walks + 0 = omega arith in
    (given.0, ap (λ n. front ++ walks_lines n c.walks ++ end_line ∷ []) all)

-- a line that leads from one place to another, and what is read behind it
ends_behind : (left after : Option (List ℕ)) (line : List ℕ) (lines : List (List ℕ)) → Consumes left after (joined_lines (line ∷ []))
    → IfSome after (λ text. text ≡ joined_lines lines) → IfSome left (λ text. text ≡ joined_lines (line ∷ lines))
ends_behind None after line lines bytes is = tt
ends_behind (Some text) None line lines bytes is = absurd bytes
ends_behind (Some text) (Some rest) line lines bytes is =
    bytes ∙ ap (λ (b : List ℕ). (line ++ 10 ∷ []) ++ b) is ∙ append_assoc line (10 ∷ []) (joined_lines lines)

-- a walk may come where a round may
pub walk_for_round : (given : CertPart) (next : NextPart) → IsWalk given next → IsRoundOrWalk given next
walk_for_round (part.Counts counts version) next h = h
walk_for_round (part.Tree nodes) next h = h
walk_for_round (part.Round darts) next h = absurd h
walk_for_round (part.Walk darts) next h = h

pub passed : {R : Type 0} (remaining : R → Option (List ℕ)) (place next : NextPart) (line : List ℕ) (old mid new : LineState R) (answer : Result (Option (CertPart × NextPart)) CertStop)
    → Passes place next line → parts_left next ≤ parts_left place → ((given : CertPart) (then : NextPart) → LeadsTo next given then → LeadsTo place given then) → MayEnd place
    → Steps (state_at place) line (state_at next) → TakesLines remaining old mid (line ∷ []) → ReadsPart remaining next mid new answer
    → stage (state_at next) ≡ stage (state_at place) → ReadsPart remaining place old new answer
passed remaining place next line old mid new (Ok (Some (given, then))) passes fewer leads ends step takes reads same = (
  line ∷ reads.0,
  takes_more remaining old mid new (line ∷ []) reads.0 takes reads.1,
  λ c are. let here = passes c are in
      let more = reads.2 c here.0 in
      (more.0, more.1 ∙ ap (λ (ls : List (List ℕ)). ls ++ reads.0) here.1 ∙ append_assoc (given_lines place c) (line ∷ []) reads.0),
  reads.3,
  omega (arith, reads.4, fewer),
  leads given then reads.5,
)
passed remaining place next line old mid new (Ok None) passes fewer leads ends step takes reads same = (
  line ∷ reads.0,
  λ c are. let here = passes c are in
      let more = reads.1 c here.0 in
      (more.0, more.1 ∙ ap (λ (ls : List (List ℕ)). ls ++ reads.0) here.1 ∙ append_assoc (given_lines place c) (line ∷ []) reads.0),
  ends_behind (untaken remaining old) (untaken remaining mid) line reads.0 takes.bytes reads.2,
  reads.3,
  ends,
)
passed remaining place next line old mid new (Err (Text number)) passes fewer leads ends step takes reads same =
    stuck_later (untaken remaining old) (untaken remaining mid) (state_at place) (state_at next) (line ∷ []) (taken old) (taken mid) number takes.bytes takes.counted
    (first_line (state_at place) (state_at next) (state_at next) line [] step (no_line (state_at next))) reads same
passed remaining place next line old mid new (Err Memory) passes fewer leads ends step takes reads same = tt
passed remaining place next line old mid new (Err Device) passes fewer leads ends step takes reads same = tt

-- a stop while a part is read
pub stops_part : {R T : Type 0} (remaining : R → Option (List ℕ)) (fits : T → Type 0) (lines : T → List (List ℕ)) (place : NextPart) (old new end : LineState R) (stop : CertStop)
    → Reads {T = T} remaining fits lines (state_at place) old new (Err stop) → ReadsPart remaining place old end (Err stop)
stops_part remaining fits lines place old new end (Text number) reads = reads
stops_part remaining fits lines place old new end Memory reads = tt
stops_part remaining fits lines place old new end Device reads = tt

-- how many lines a tree has
pub few_lines : (version : ℕ) (nodes : List TreeNode) → All IsNodeInRange nodes → length (nodes_lines version nodes) ≤ 9 * length nodes
few_lines version [] range = omega arith
few_lines version (Inner r k ∷ nodes) range =
    let more = few_lines version nodes (All-tail IsNodeInRange (Inner r k) nodes range) in omega (arith, more)
few_lines version (Leaf r v ∷ nodes) range =
    let more = few_lines version nodes (All-tail IsNodeInRange (Leaf r v) nodes range) in
    let here = All-head IsNodeInRange (Leaf r v) nodes range in
    omega (arith, more, here.1, length-append (item_lines v.items) (nodes_lines version nodes), length-map v.items (numbered_line (codes "S")))

pub few_darts : (letter : ℕ) (darts : List ℕ) → IsDartList darts → length (darts_lines (letter ∷ []) darts) ≤ 2 ^ 32
few_darts letter darts are = omega (arith, are.counted, length-map darts (numbered_line (codes "D")))

pub known : (version : ℕ) → 1 ≤ version → version ≤ 2 → (version ≡ 1) ⊎ (version ≡ 2)
known zero some few = absurd (omega (arith, some))
known (suc zero) some few = inl refl
known (suc (suc zero)) some few = inr refl
known (suc (suc (suc version))) some few = absurd (omega (arith, few))

-- a list of darts, where some are left
pub walk_read : {R : Type 0} (remaining : R → Option (List ℕ)) (left : ℕ) (darts : Vec ℕ Global) (old new : LineState R) → 0 < left → AreDarts darts
    → TakesLines remaining old new (darts_lines (75 ∷ []) darts.items) → FitsPlace (Walks left) (taken old)
    → ReadsPart remaining (Walks left) old new (Ok (Some (part.Walk darts, Walks (left - 1))))
walk_read remaining left darts old new some are takes fits =
    let before : suc (left - 1) ≡ left = omega (arith, some) in (
      darts_lines (75 ∷ []) darts.items,
      takes,
      subst (λ n. Adds (Walks n) (Walks (left - 1)) (part.Walk darts) (darts_lines (75 ∷ []) darts.items)) before (add_walk (left - 1) darts are),
      omega (arith, takes.counted, few_darts 75 darts.items are.0, fits, some),
      omega (arith, some),
      (left - 1, refl),
    )

pub round_read : {R : Type 0} (remaining : R → Option (List ℕ)) (left : ℕ) (darts : Vec ℕ Global) (old new : LineState R) → 0 < left → AreDarts darts
    → TakesLines remaining old new (darts_lines (82 ∷ []) darts.items) → FitsPlace (Rounds left) (taken old)
    → ReadsPart remaining (Rounds left) old new (Ok (Some (part.Round darts, Rounds (left - 1))))
round_read remaining left darts old new some are takes fits =
    let before : suc (left - 1) ≡ left = omega (arith, some) in (
      darts_lines (82 ∷ []) darts.items,
      takes,
      subst (λ n. Adds (Rounds n) (Rounds (left - 1)) (part.Round darts) (darts_lines (82 ∷ []) darts.items)) before (add_round (left - 1) darts are),
      omega (arith, takes.counted, few_darts 82 darts.items are.0, fits, some),
      omega (arith, some),
      (left - 1, refl),
    )

-- a list of darts that isn't there
pub walk_stops : {R : Type 0} (remaining : R → Option (List ℕ)) (left : ℕ) (old new end : LineState R) (stop : CertStop) → 0 < left
    → ((others : ℕ) → Reads {T = Vec ℕ Global} remaining AreDarts (λ v. darts_lines (75 ∷ []) v.items) (walks (suc others) 0) old new (Err stop)) → ReadsPart remaining (Walks left) old end (Err stop)
walk_stops remaining left old new end stop some reads =
    let before : suc (left - 1) ≡ left = omega (arith, some) in
    subst (λ n. ReadsPart remaining (Walks n) old end (Err stop)) before
    (stops_part {T = Vec ℕ Global} remaining AreDarts (λ v. darts_lines (75 ∷ []) v.items) (Walks (suc (left - 1))) old new end stop (reads (left - 1)))

pub round_stops : {R : Type 0} (remaining : R → Option (List ℕ)) (left : ℕ) (old new end : LineState R) (stop : CertStop) → 0 < left
    → ((others : ℕ) → Reads {T = Vec ℕ Global} remaining AreDarts (λ v. darts_lines (82 ∷ []) v.items) (rounds (suc others) 0) old new (Err stop)) → ReadsPart remaining (Rounds left) old end (Err stop)
round_stops remaining left old new end stop some reads =
    let before : suc (left - 1) ≡ left = omega (arith, some) in
    subst (λ n. ReadsPart remaining (Rounds n) old end (Err stop)) before
    (stops_part {T = Vec ℕ Global} remaining AreDarts (λ v. darts_lines (82 ∷ []) v.items) (Rounds (suc (left - 1))) old new end stop (reads (left - 1)))

-- the last line
end_run : Runs (walks 0 0) (end_line ∷ []) ended
end_run = first_line (walks 0 0) ended ended end_line [] at_end (no_line ended)

pub text_ends : {R : Type 0} (remaining : R → Option (List ℕ)) (old mid end : LineState R) → TakesLines remaining old mid (end_line ∷ []) → EndsText remaining mid end (Ok tt)
    → ReadsPart remaining (Walks 0) old end (Ok None)
text_ends remaining old mid end takes ends = (end_line ∷ [], ends_here, ends_behind (untaken remaining old) (untaken remaining mid) end_line [] takes.bytes ends.0, ends.1, tt)

stuck_at_end : (left : Option (List ℕ)) (before number : ℕ) → number ≡ 1 + before → IfSome left (λ text. text ≡ [] → ⊥) → IfSome left (λ text. IsStuckAfter ended before text number)
stuck_at_end None before number told some = tt
stuck_at_end (Some text) before number told some = record {
  lines = [];
  state = ended;
  rest = text;
  runs = no_line ended;
  within = refl;
  whole = refl;
  stuck = record { none = λ l rest u step same. leads ended u l step; some = λ e. some };
  told = omega (arith, told);
}

pub text_goes_on : {R : Type 0} (remaining : R → Option (List ℕ)) (old mid end : LineState R) (stop : CertStop) → TakesLines remaining old mid (end_line ∷ []) → EndsText remaining mid end (Err stop)
    → ReadsPart remaining (Walks 0) old end (Err stop)
text_goes_on remaining old mid end (Text number) takes ends =
    stuck_later (untaken remaining old) (untaken remaining mid) (walks 0 0) ended (end_line ∷ []) (taken old) (taken mid) number takes.bytes takes.counted end_run
    (stuck_at_end (untaken remaining mid) (taken mid) number ends.0 ends.1) refl
text_goes_on remaining old mid end Memory takes ends = absurd ends
text_goes_on remaining old mid end Device takes ends = tt

-- a line that isn't there
pub end_missing : {R : Type 0} (remaining : R → Option (List ℕ)) (old new end : LineState R) (stop : CertStop) → ReadsLine {V = Unit {0}} remaining (λ v. end_line) (λ v. Unit {0}) old new (Err stop)
    → ReadsPart remaining (Walks 0) old end (Err stop)
end_missing remaining old new end stop reads =
    stops_part {T = ℕ} remaining (λ n. Unit {0}) (λ n. []) (Walks 0) old new end stop
    (line_missing {V = Unit {0}} {T = ℕ} remaining (λ v. end_line) (λ v. Unit {0}) (λ n. Unit {0}) (λ n. []) (walks 0 0) (walks 0 0) [] old old new new stop (no_line (walks 0 0)) (takes_none remaining old)
    (λ l u step. (tt, tt, (leads (walks 0 0) u l step).0)) (λ e. cc e) reads refl)

pub number_missing : {R : Type 0} (remaining : R → Option (List ℕ)) (letter : ℕ) (place : NextPart) (old new end : LineState R) (stop : CertStop)
    → ((l : List ℕ) (u : State) → Steps (state_at place) l u → Tells letter (λ n. IsNumber n × (0 ≤ n)) l) → (state_at place ≡ ended → ⊥)
    → ReadsLine {V = ℕ} remaining (numbered_line (letter ∷ [])) (λ n. IsNumber n × (0 ≤ n)) old new (Err stop) → ReadsPart remaining place old end (Err stop)
number_missing remaining letter place old new end stop allowed goes reads =
    stops_part {T = ℕ} remaining (λ n. Unit {0}) (λ n. []) place old new end stop
    (line_missing {V = ℕ} {T = ℕ} remaining (numbered_line (letter ∷ [])) (λ n. IsNumber n × (0 ≤ n)) (λ n. Unit {0}) (λ n. []) (state_at place) (state_at place) [] old old new new stop
    (no_line (state_at place)) (takes_none remaining old) allowed goes reads refl)

-- the nodes of a tree
pub tree_read : {R : Type 0} (remaining : R → Option (List ℕ)) (place : NextPart) (version : ℕ) (nodes : Vec TreeNode Global) (old new : LineState R) → place ≡ Counted version → FitsPlace place (taken old)
    → IsTree version nodes.items → TakesLines remaining old new (tree_lines version nodes.items) → ReadsPart remaining place old new (Ok (Some (part.Tree nodes, Treed version)))
tree_read remaining place version nodes old new is fits are takes =
    let before : FitsPlace (Counted version) (taken old) = subst (λ p. FitsPlace p (taken old)) is fits in
    subst (λ p. ReadsPart remaining p old new (Ok (Some (part.Tree nodes, Treed version)))) (sym is) (
      tree_lines version nodes.items,
      takes,
      add_tree version nodes are,
      (before.0, (before.1.0, omega (arith, takes.counted, few_lines version nodes.items are.range, are.few, before.1.1))),
      omega arith,
      refl,
    )

-- the counts
pub counts_read : {R : Type 0} (remaining : R → Option (List ℕ)) (counts : Counts) (version : ℕ) (old new : LineState R) → taken old ≤ 0
    → AreVersionedCounts (counts, version) → TakesLines remaining old new (versioned_lines (counts, version)) → ReadsPart remaining Start old new (Ok (Some (part.Counts counts version, Counted version)))
counts_read remaining counts version old new none are takes = (
  versioned_lines (counts, version),
  takes,
  add_counts counts version are,
  (elim are.1 [ inl one ↦ omega (arith, one) | inr two ↦ omega (arith, two) ], (elim are.1 [ inl one ↦ omega (arith, one) | inr two ↦ omega (arith, two) ], omega (arith, takes.counted, none))),
  omega arith,
  refl,
)
