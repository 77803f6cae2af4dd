-- Lines that are taken one after the other, and texts that are refused behind some of them.
use Rattle.std.proofs.Common.{◌≡◌, ℕ, zero, suc, ◌+◌, ◌<◌, List, [], ◌∷◌, ◌++◌, length, map, All, Option, None, Some, Err, refl, sym, ap, subst, ◌∙◌, arith, append_assoc, length-append, codes}
use Rattle.std.specs.Option.{IfSome}
use Rattle.std.specs.Io.KnownBytes.{Consumes, prepend_known}
use Rattle.std.proofs.KnownBytes.{Consumes-trans, Consumes-nil}
use Rattle.std.proofs.lemmas.List.{map-append}
use Rattle.std.proofs.lemmas.List.Elements.{All-head, All-tail, All-nil, All-cons, All-append}
use Rattle.tl_record.specs.Lines.{joined_lines}
use Rattle.tl_cert.specs.declared.parts.DartLists.{DartLists}
use Rattle.tl_cert.specs.declared.parts.DartLists.TheVariants.{Rounds, Walks}
use Rattle.tl_cert.specs.declared.stop.CertStop.{CertStop}
use Rattle.tl_cert.specs.declared.stop.CertStop.TheVariants.{Text, Memory, Device}
use Rattle.tl_cert.specs.Certificates.{IsNumber}
use Rattle.tl_cert.specs.Text.{numbered_line, item_lines, dart_lines}
use Rattle.tl_cert.specs.declared.lines.Lines.{Lines}
use Rattle.tl_cert.specs.Keeping.Lines.{LineState, NoLineBegins, TakesLines, TakesFetched, ReadsLine, at, taken, untaken}
use Rattle.tl_cert.specs.Keeping.Parts.{IsStuckAfter, Reads, letter_of, among}
use Rattle.tl_cert.specs.Keeping.Steps.{State, tree, ended, Steps, at_item, at_round, at_round_dart, at_walk, at_walk_dart, Runs, no_line, first_line, stage}
use Rattle.tl_cert.proofs.StepLemmas.{step_short}
use Rattle.tl_cert.proofs.RunLemmas.{runs-append}
use Rattle.tl_cert.proofs.Completing.{joined-append}

-- no line was taken
pub takes_none : {R : Type 0} (remaining : R → Option (List ℕ)) (reader : LineState R) → TakesLines remaining reader reader []
takes_none remaining reader = record { bytes = Consumes-nil (untaken remaining reader); counted = omega arith }

-- some lines and then others
pub takes_more : {R : Type 0} (remaining : R → Option (List ℕ)) (old mid new : LineState R) (xs ys : List (List ℕ))
    → TakesLines remaining old mid xs → TakesLines remaining mid new ys → TakesLines remaining old new (xs ++ ys)
takes_more remaining old mid new xs ys first second = record {
  bytes = subst (λ b. Consumes (untaken remaining old) (untaken remaining new) b) (sym (joined-append xs ys))
      (Consumes-trans (untaken remaining old) (untaken remaining mid) (untaken remaining new) (joined_lines xs) (joined_lines ys) first.bytes second.bytes);
  counted = omega (arith, first.counted, second.counted, length-append xs ys);
}

-- lines that were taken from what was fetched
pub takes_fetched : {R : Type 0} (remaining : R → Option (List ℕ)) (source : R) (old new : Lines) (lines : List (List ℕ)) → TakesFetched old new lines
    → TakesLines remaining (at old source) (at new source) lines
takes_fetched remaining source old new lines takes = record { bytes = by_source (remaining source); counted = takes.counted }
  where
    by_source : (left : Option (List ℕ)) → Consumes (prepend_known old.buffer left) (prepend_known new.buffer left) (joined_lines lines)
    by_source None = tt
    by_source (Some xs) = ap (λ (l : List ℕ). l ++ xs) takes.bytes ∙ append_assoc (joined_lines lines) new.buffer xs

-- the text is refused where no line leads on
stuck_here : (left : Option (List ℕ)) (s : State) (P : List ℕ → Type 0) (before line : ℕ) → ((l : List ℕ) (u : State) → Steps s l u → P l) → (s ≡ ended → ⊥)
    → line ≡ 1 + before → IfSome left (NoLineBegins P) → IfSome left (λ text. IsStuckAfter s before text line)
stuck_here None s P before line allowed goes told none = tt
stuck_here (Some text) s P before line allowed goes told none = record {
  lines = [];
  state = s;
  rest = text;
  runs = no_line s;
  within = refl;
  whole = refl;
  stuck = record {
    none = λ l rest u step same. let short = step_short s u l step in none l rest (allowed l u step) (record { none = short.0; few = short.1 }) same;
    some = λ e. absurd (goes e);
  };
  told = omega (arith, told);
}

-- and so it is behind lines that were taken before
pub stuck_later : (left after : Option (List ℕ)) (s t : State) (lines : List (List ℕ)) (before mid line : ℕ) → Consumes left after (joined_lines lines) → mid ≡ before + length lines
    → Runs s lines t → IfSome after (λ text. IsStuckAfter t mid text line) → stage t ≡ stage s → IfSome left (λ text. IsStuckAfter s before text line)
stuck_later None after s t lines before mid line bytes counted runs stuck same = tt
stuck_later (Some text) None s t lines before mid line bytes counted runs stuck same = absurd bytes
stuck_later (Some text) (Some rest) s t lines before mid line bytes counted runs stuck same = record {
  lines = lines ++ stuck.lines;
  state = stuck.state;
  rest = stuck.rest;
  runs = runs-append s t stuck.state lines stuck.lines runs stuck.runs;
  within = stuck.within ∙ same;
  whole = bytes ∙ ap (λ b. joined_lines lines ++ b) stuck.whole ∙ sym (append_assoc (joined_lines lines) (joined_lines stuck.lines) stuck.rest)
      ∙ ap (λ b. b ++ stuck.rest) (sym (joined-append lines stuck.lines));
  stuck = stuck.stuck;
  told = omega (arith, stuck.told, counted, length-append lines stuck.lines);
}

-- a stop behind lines that were taken
pub stops_later : {R S T : Type 0} (remaining : R → Option (List ℕ)) (may : S → Type 0) (some : S → List (List ℕ)) (fits : T → Type 0) (part : T → List (List ℕ)) (s t : State) (lines : List (List ℕ))
    (old mid new end : LineState R) (stop : CertStop)
    → Runs s lines t → TakesLines remaining old mid lines → Reads {T = S} remaining may some t mid new (Err stop) → stage t ≡ stage s → Reads {T = T} remaining fits part s old end (Err stop)
stops_later remaining may some fits part s t lines old mid new end (Text line) runs takes reads same =
    stuck_later (untaken remaining old) (untaken remaining mid) s t lines (taken old) (taken mid) line takes.bytes takes.counted runs reads same
stops_later remaining may some fits part s t lines old mid new end Memory runs takes reads same = tt
stops_later remaining may some fits part s t lines old mid new end Device runs takes reads same = tt

-- a line that isn't there, behind lines that were taken
pub line_missing : {R V T : Type 0} (remaining : R → Option (List ℕ)) (spelt : V → List ℕ) (may : V → Type 0) (fits : T → Type 0) (part : T → List (List ℕ)) (s t : State) (lines : List (List ℕ))
    (old mid new end : LineState R) (stop : CertStop) → Runs s lines t → TakesLines remaining old mid lines
    → ((l : List ℕ) (u : State) → Steps t l u → (value : V) × may value × (l ≡ spelt value)) → (t ≡ ended → ⊥)
    → ReadsLine remaining spelt may mid new (Err stop) → stage t ≡ stage s → Reads {T = T} remaining fits part s old end (Err stop)
line_missing {R} {V} {T} remaining spelt may fits part s t lines old mid new end (Text line) runs takes allowed goes reads same =
    stuck_later (untaken remaining old) (untaken remaining mid) s t lines (taken old) (taken mid) line takes.bytes takes.counted runs
    (stuck_here (untaken remaining mid) t (λ l. (value : V) × may value × (l ≡ spelt value)) (taken mid) line allowed goes reads.0 reads.1) same
line_missing remaining spelt may fits part s t lines old mid new end Memory runs takes allowed goes reads same = absurd reads
line_missing remaining spelt may fits part s t lines old mid new end Device runs takes allowed goes reads same = tt

-- a number more in a list of lines
pub lines_more : (word xs ys : List ℕ) (x : ℕ) → ys ≡ xs ++ x ∷ [] → map (numbered_line word) ys ≡ map (numbered_line word) xs ++ numbered_line word x ∷ []
lines_more word xs ys x is = ap (map (numbered_line word)) is ∙ map-append (numbered_line word) xs (x ∷ [])

pub numbers_more : (xs ys : List ℕ) (x : ℕ) → ys ≡ xs ++ x ∷ [] → All IsNumber xs → IsNumber x → All IsNumber ys
numbers_more xs ys x is all small = subst (All IsNumber) (sym is) (All-append IsNumber xs (x ∷ []) all (All-cons IsNumber x [] small (All-nil IsNumber)))

-- items and darts that lead on to where others are still to come
pub items_run_on : (v p r k : ℕ) (items : List ℕ) → All IsNumber items → Runs (tree v p r (length items + k)) (item_lines items) (tree v p r k)
items_run_on v p r k [] all = let none : k ≡ 0 + k = omega arith in subst (λ n. Runs (tree v p r n) [] (tree v p r k)) none (no_line (tree v p r k))
items_run_on v p r k (item ∷ items) all =
    let next : suc (length items + k) ≡ length (item ∷ items) + k = omega arith in
    subst (λ n. Runs (tree v p r n) (item_lines (item ∷ items)) (tree v p r k)) next
    (first_line (tree v p r (suc (length items + k))) (tree v p r (length items + k)) (tree v p r k) (numbered_line (codes "S") item) (item_lines items)
    (at_item v p r (length items + k) item (All-head IsNumber item items all)) (items_run_on v p r k items (All-tail IsNumber item items all)))

dart_step : (lists : DartLists) (m k dart : ℕ) → IsNumber dart → Steps (among lists m (suc k)) (numbered_line (codes "D") dart) (among lists m k)
dart_step Rounds m k dart small = at_round_dart m k dart small
dart_step Walks m k dart small = at_walk_dart m k dart small

pub darts_run_on : (lists : DartLists) (m k : ℕ) (darts : List ℕ) → All IsNumber darts → Runs (among lists m (length darts + k)) (dart_lines darts) (among lists m k)
darts_run_on lists m k [] all = let none : k ≡ 0 + k = omega arith in subst (λ n. Runs (among lists m n) [] (among lists m k)) none (no_line (among lists m k))
darts_run_on lists m k (dart ∷ darts) all =
    let next : suc (length darts + k) ≡ length (dart ∷ darts) + k = omega arith in
    subst (λ n. Runs (among lists m n) (dart_lines (dart ∷ darts)) (among lists m k)) next
    (first_line (among lists m (suc (length darts + k))) (among lists m (length darts + k)) (among lists m k) (numbered_line (codes "D") dart) (dart_lines darts)
    (dart_step lists m (length darts + k) dart (All-head IsNumber dart darts all)) (darts_run_on lists m k darts (All-tail IsNumber dart darts all)))

list_step : (lists : DartLists) (m count : ℕ) → 0 < count → IsNumber count → Steps (among lists (suc m) 0) (numbered_line (letter_of lists ∷ []) count) (among lists m count)
list_step Rounds m count some small = at_round m count some small
list_step Walks m count some small = at_walk m count some small

-- a list of which some darts were read
pub list_run : (lists : DartLists) (m count left : ℕ) (darts : List ℕ) → 0 < count → IsNumber count → count ≡ length darts + left → All IsNumber darts
    → Runs (among lists (suc m) 0) (numbered_line (letter_of lists ∷ []) count ∷ dart_lines darts) (among lists m left)
list_run lists m count left darts some small whole all =
    first_line (among lists (suc m) 0) (among lists m count) (among lists m left) (numbered_line (letter_of lists ∷ []) count) (dart_lines darts)
    (list_step lists m count some small)
    (subst (λ n. Runs (among lists m n) (dart_lines darts) (among lists m left)) (sym whole) (darts_run_on lists m left darts all))

-- where items of a leaf, or darts, are still to come
pub stage_items : (v p r i : ℕ) → 0 < i → stage (tree v p r i) ≡ 1
stage_items v p r zero some = absurd (omega (arith, some))
stage_items v p r (suc i) some = refl

pub stage_lists : (lists : DartLists) (m n k l : ℕ) → stage (among lists m k) ≡ stage (among lists n l)
stage_lists Rounds m n k l = refl
stage_lists Walks m n k l = refl
