-- What is done with files, one thing after the other.
use Rattle.std.proofs.Common.{◌≡◌, inl, inr, ℕ, ◌+◌, ◌<◌, Bool, true, false, List, [], ◌++◌, take, length, Option, Some, None, Result, Ok, Err, refl, sym, ap, subst, ◌∙◌, arith, append-nil}
use Rattle.std.proofs.Math.Seq.{take-nil, take-length}
use Rattle.std.specs.Result.{IsErrAnd}
use Rattle.std.specs.Prelude.{IfOk, IfErr}
use Rattle.tl_cert_output.specs.declared.stop.Stop.{Stop}
use Rattle.tl_cert_output.specs.declared.stop.Stop.TheVariants.{Record, Memory, Device, Budget}
use Rattle.tl_cert_output.specs.Stops.{StopsFor}
use Rattle.tigertopo_files.specs.Files.{Under, KeepsBut, KeepsEach, StandsUnder, MakesFile}
use Rattle.tigertopo_files.specs.Log.{Log, Fails, LogsFailure, together, with_opened}
use Rattle.tigertopo_files.specs.World.{World, Does, Failed, Keeps, Unmade, MayStop, LogsReading}

-- ---- what is kept

keeps_from : (u v after : Under) (log logged : Log) (k : Bool) (made : Option (List ℕ)) → v ≡ u → Keeps (record { before = v; after = after; log = log; logged = logged; knows = k }) made
    → (other : Log) → Keeps (record { before = u; after = after; log = other; logged = logged; knows = k }) made
keeps_from u v after log logged k None same keeps other = keeps ∙ same
keeps_from u v after log logged k (Some name) same keeps other = subst (λ w. KeepsBut w after name) same keeps

pub unmade_from : (u v after : Under) (log logged : Log) (k : Bool) (made : Option (List ℕ)) → v ≡ u → Unmade (record { before = v; after = after; log = log; logged = logged; knows = k }) made
    → (other : Log) → Unmade (record { before = u; after = after; log = other; logged = logged; knows = k }) made
unmade_from u v after log logged k None same unmade other = unmade ∙ same
unmade_from u v after log logged k (Some name) same unmade other = subst (λ w. KeepsEach w after name) same unmade

-- what stays, stays but for what is made
pub all_kept : (w : World) (made : Option (List ℕ)) → w.after ≡ w.before → Keeps w made
all_kept w None same = same
all_kept w (Some name) same = λ other differs apart. ap (λ u. u other) same

pub none_made : (w : World) (made : Option (List ℕ)) → w.after ≡ w.before → Unmade w made
none_made w None same = same
none_made w (Some name) same = λ other apart. ap (λ u. u other) same

pub unmade_keeps : (w : World) (made : Option (List ℕ)) → Unmade w made → Keeps w made
unmade_keeps w None unmade = unmade
unmade_keeps w (Some name) unmade = λ other differs apart. unmade other apart

-- ---- why nothing is answered

pub may_stop : (failed : Type 0) (stops : Stop → Type 0) (stop : Stop) → StopsFor failed stop → MayStop stops stop
may_stop failed stops (Record line cause) so = absurd so
may_stop failed stops Memory so = tt
may_stop failed stops Device so = tt
may_stop failed stops Budget so = absurd so

pub may_stop_for : (stops other : Stop → Type 0) (stop : Stop) → ((s : Stop) → stops s → other s) → MayStop stops stop → MayStop other stop
may_stop_for stops other (Record line cause) wider so = wider (Record line cause) so
may_stop_for stops other Memory wider so = tt
may_stop_for stops other Device wider so = tt
may_stop_for stops other Budget wider so = wider Budget so

-- ---- the log

module _ (l m : Log) (names : List (List (List ℕ))) (read : m ≡ record l { opened = l.opened ++ names }) where
  rest_of : (q : Log) (n count : ℕ) → q ≡ record m { opened = m.opened ++ take n []; failures = m.failures + count } → q ≡ record l { opened = l.opened ++ take (length names) names; failures = l.failures + count }
  rest_of q n count is =
      subst (λ from. q ≡ record from { opened = from.opened ++ take n []; failures = from.failures + count }) read is
      ∙ ap (λ xs. record l { opened = xs; failures = l.failures + count }) (nothing_more n)
    where
      nothing_more : (n : ℕ) → (l.opened ++ names) ++ take n [] ≡ l.opened ++ take (length names) names
      nothing_more n = ap (λ xs. (l.opened ++ names) ++ xs) (take-nil n) ∙ append-nil (l.opened ++ names) ∙ ap (λ xs. l.opened ++ xs) (sym (take-length names))

  some_of : (q : Log) (n : ℕ) → q ≡ record m { opened = m.opened ++ take n [] } → q ≡ record l { opened = l.opened ++ take (length names) names }
  some_of q n is =
      subst (λ from. q ≡ record from { opened = from.opened ++ take n [] }) read is
      ∙ ap (λ xs. record l { opened = xs }) (ap (λ xs. (l.opened ++ names) ++ xs) (take-nil n) ∙ append-nil (l.opened ++ names) ∙ ap (λ xs. l.opened ++ xs) (sym (take-length names)))

  whole_of : (q : Log) → q ≡ record m { opened = m.opened ++ [] } → q ≡ record l { opened = l.opened ++ names }
  whole_of q is =
      subst (λ from. q ≡ record from { opened = from.opened ++ [] }) read is
      ∙ ap (λ xs. record l { opened = xs }) (append-nil (l.opened ++ names))

log_then : {T : Type 0} (l m : Log) (names : List (List ℕ)) → m ≡ with_opened l names → (q : Log) (r : Result T Stop) → LogsReading m q [] r → LogsReading l q names r
log_then l m names read q (Ok done) is = whole_of l m (together names) read q is
log_then l m names read q (Err (Record line cause)) is = (length (together names), some_of l m (together names) read q is.0 is.1)
log_then l m names read q (Err Memory) is = (length (together names), some_of l m (together names) read q is.0 is.1)
log_then l m names read q (Err Device) is = (length (together names), is.1, rest_of l m (together names) read q is.0 is.1 is.2)
log_then l m names read q (Err Budget) is = (length (together names), some_of l m (together names) read q is.0 is.1)

failed_then : (u v after : Under) (l m q : Log) (k : Bool) (names : List (List ℕ)) → (k ≡ true → m.failures ≡ l.failures)
    → Failed (record { before = v; after = after; log = m; logged = q; knows = k }) [] → Failed (record { before = u; after = after; log = l; logged = q; knows = k }) names
failed_then u v after l m q k names same (inl missing) = absurd (let none : missing.1.0 < 0 = missing.1.1 in omega (arith, none))
failed_then u v after l m q k names same (inr (inl unknown)) = inr (inl unknown)
failed_then u v after l m q false names same (inr (inr more)) = inr (inl refl)
failed_then u v after l m q true names same (inr (inr more)) = inr (inr (subst (λ n. n < q.failures) (same refl) more))

-- ---- one thing after the other

if_ok : {T : Type 0} (P Q : T → Type 0) (r : Result T Stop) → ((t : T) → P t → Q t) → IfOk r P → IfOk r Q
if_ok P Q (Ok t) wider holds = wider t holds
if_ok P Q (Err stop) wider holds = tt

if_err : {T : Type 0} (P Q : Stop → Type 0) (r : Result T Stop) → ((s : Stop) → P s → Q s) → IfErr r P → IfErr r Q
if_err P Q (Ok t) wider holds = tt
if_err P Q (Err stop) wider holds = wider stop holds

module _ {A T : Type 0} (u v after : Under) (l m q : Log) (k : Bool) (names : List (List ℕ)) (made : Option (List ℕ)) (P : A → Type 0) (S : Stop → Type 0) (x : A)
    (first : Does (record { before = u; after = v; log = l; logged = m; knows = k }) names None P S (Ok x)) where
  -- files were read, and then something was done with the others
  pub does_then : (Q R : T → Type 0) (S' : Stop → Type 0) (r : Result T Stop) → Does (record { before = v; after = after; log = m; logged = q; knows = k }) [] made Q S' r
      → ((t : T) → Q t → R t) → ((s : Stop) → S' s → S s) → Does (record { before = u; after = after; log = l; logged = q; knows = k }) names made R S r
  does_then Q R S' r second so stops = record {
    answered = if_ok Q R r so second.answered;
    stopped = if_err (MayStop S') (MayStop S) r (λ s. may_stop_for S' S s stops) second.stopped;
    device = λ e. elim (second.device e) [
      | inl failed ↦ inl (failed_then u v after l m q k names (λ known. ap (λ log. log.failures) (first.logged known)) failed)
      | inr why ↦ inr (stops Device why)
    ];
    keeps = keeps_from u v after m q k made first.keeps second.keeps l;
    unmade = if_err _ _ r (λ s unmade. unmade_from u v after m q k made first.keeps unmade l) second.unmade;
    logged = λ known. log_then l m names (first.logged known) q r (second.logged known);
  }

module _ {A T : Type 0} (w : World) (names : List (List ℕ)) (P : A → Type 0) (S : Stop → Type 0) where
  -- files were read, and nothing else was done: what is answered of them, with or without a file that might have been made
  pub does_read : (made : Option (List ℕ)) (x : A) → Does w names None P S (Ok x) → (R : T → Type 0) (t : T) → R t → Does w names made R S (Ok t)
  does_read made x first R t so = record {
    answered = so;
    stopped = tt;
    device = λ e. absurd (cc);
    keeps = all_kept w made first.keeps;
    unmade = tt;
    logged = first.logged;
  }

  -- memory was refused behind that
  pub does_run_out : (made : Option (List ℕ)) (x : A) → Does w names None P S (Ok x) → (R : T → Type 0) (r : Result T Stop) → IsErrAnd r (λ told. told ≡ Memory) → Does w names made R S r
  does_run_out made x first R (Ok t) is = absurd is
  does_run_out made x first R (Err stop) is = subst (λ s. Does w names made R S (Err s)) (sym is) (record {
    answered = tt;
    stopped = tt;
    device = λ e. absurd (cc);
    keeps = all_kept w made first.keeps;
    unmade = none_made w made first.keeps;
    logged = λ known. (length (together names), subst (λ xs. w.logged ≡ record w.log { opened = w.log.opened ++ xs }) (sym (take-length (together names))) (first.logged known));
  })

  -- nothing is answered of them
  pub does_stop : (made : Option (List ℕ)) (S' : Stop → Type 0) (stop : Stop) → Does w names None P S (Err stop) → ((s : Stop) → S s → S' s) → (R : T → Type 0) (r : Result T Stop) → IsErrAnd r (λ told. told ≡ stop)
      → Does w names made R S' r
  does_stop made S' stop first wider R (Ok t) is = absurd is
  does_stop made S' stop first wider R (Err other) is = subst (λ s. Does w names made R S' (Err s)) (sym is) (stop_with stop first)
    where
      stop_with : (stop : Stop) → Does w names None P S (Err stop) → Does w names made R S' (Err stop)
      stop_with (Record line cause) d = record { answered = tt; stopped = may_stop_for S S' (Record line cause) wider d.stopped; device = λ e. absurd (cc); keeps = all_kept w made d.keeps; unmade = none_made w made d.keeps; logged = d.logged }
      stop_with Memory d = record { answered = tt; stopped = tt; device = λ e. absurd (cc); keeps = all_kept w made d.keeps; unmade = none_made w made d.keeps; logged = d.logged }
      stop_with Device d = record { answered = tt; stopped = tt; device = λ e. elim (d.device refl) [ inl failed ↦ inl failed | inr why ↦ inr (wider Device why) ]; keeps = all_kept w made d.keeps; unmade = none_made w made d.keeps; logged = d.logged }
      stop_with Budget d = record { answered = tt; stopped = may_stop_for S S' Budget wider d.stopped; device = λ e. absurd (cc); keeps = all_kept w made d.keeps; unmade = none_made w made d.keeps; logged = d.logged }

-- ---- a file that is made

same_log : (l q : Log) → q ≡ l → q ≡ record l { opened = l.opened ++ [] }
same_log l q is = is ∙ ap (λ xs. record l { opened = xs }) (sym (append-nil l.opened))

module _ {T : Type 0} (u after : Under) (l q : Log) (k : Bool) (name text : List ℕ) where
  -- a file was made of a text, or none was
  pub does_make : (S : Stop → Type 0) (r : Result T Stop) → MakesFile u after name (Fails k l q) text r → (k ≡ true → LogsFailure l q r)
      → Does (record { before = u; after = after; log = l; logged = q; knows = k }) [] (Some name) (λ done. StandsUnder after name text) S r
  does_make S (Ok done) makes logs = record { answered = makes.1; stopped = tt; device = λ e. absurd (cc); keeps = makes.0; unmade = tt; logged = λ known. same_log l q (logs known) }
  does_make S (Err (Record line cause)) makes logs = absurd makes.1
  does_make S (Err Memory) makes logs = record {
    answered = tt;
    stopped = tt;
    device = λ e. absurd (cc);
    keeps = λ other differs apart. makes.0 other apart;
    unmade = makes.0;
    logged = λ known. (0, same_log l q (logs known));
  }
  does_make S (Err Device) makes logs = record {
    answered = tt;
    stopped = tt;
    device = λ e. inl (inr makes.1);
    keeps = λ other differs apart. makes.0 other apart;
    unmade = makes.0;
    logged = λ known. (0, 1, logs known ∙ ap (λ xs. record l { opened = xs; failures = l.failures + 1 }) (sym (append-nil l.opened)));
  }
  does_make S (Err Budget) makes logs = absurd makes.1

-- the same of what is answered behind it
pub does_answer : {A T : Type 0} (w : World) (names : List (List ℕ)) (made : Option (List ℕ)) (P : A → Type 0) (S : Stop → Type 0) (x : A) → Does w names made P S (Ok x) → (R : T → Type 0) (t : T) → R t
    → Does w names made R S (Ok t)
does_answer w names made P S x first R t so =
    record { answered = so; stopped = tt; device = λ e. absurd (cc); keeps = first.keeps; unmade = tt; logged = first.logged }

pub does_fail : {A T : Type 0} (w : World) (names : List (List ℕ)) (made : Option (List ℕ)) (P : A → Type 0) (S : Stop → Type 0) (stop : Stop) → Does w names made P S (Err stop) → (R : T → Type 0) (r : Result T Stop)
    → IsErrAnd r (λ told. told ≡ stop) → Does w names made R S r
does_fail w names made P S stop first R (Ok t) is = absurd is
does_fail {A} {T} w names made P S stop first R (Err other) is = subst (λ s. Does w names made R S (Err s)) (sym is) (fail_with stop first)
  where
    fail_with : (stop : Stop) → Does w names made P S (Err stop) → Does {T = T} w names made R S (Err stop)
    fail_with (Record line cause) d = record { answered = tt; stopped = d.stopped; device = λ e. absurd (cc); keeps = d.keeps; unmade = d.unmade; logged = d.logged }
    fail_with Memory d = record { answered = tt; stopped = tt; device = λ e. absurd (cc); keeps = d.keeps; unmade = d.unmade; logged = d.logged }
    fail_with Device d = record { answered = tt; stopped = tt; device = λ e. d.device refl; keeps = d.keeps; unmade = d.unmade; logged = d.logged }
    fail_with Budget d = record { answered = tt; stopped = d.stopped; device = λ e. absurd (cc); keeps = d.keeps; unmade = d.unmade; logged = d.logged }

-- the same, said less exactly
module _ {T : Type 0} (w : World) (names : List (List ℕ)) (made : Option (List ℕ)) (P Q : T → Type 0) (S other : Stop → Type 0) (so : (t : T) → P t → Q t) (wider : (s : Stop) → S s → other s) where
  pub does_so : (r : Result T Stop) → Does w names made P S r → Does w names made Q other r
  does_so (Ok t) does = record { answered = so t does.answered; stopped = tt; device = λ e. absurd (cc); keeps = does.keeps; unmade = tt; logged = does.logged }
  does_so (Err stop) does = record {
    answered = tt;
    stopped = may_stop_for S other stop wider does.stopped;
    device = λ e. elim (does.device e) [ inl failed ↦ inl failed | inr why ↦ inr (wider Device why) ];
    keeps = does.keeps;
    unmade = does.unmade;
    logged = does.logged;
  }
