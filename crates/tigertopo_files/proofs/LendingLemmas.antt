-- Files that are opened, lent to what reads them, and closed.
use Rattle.std.proofs.Common.{◌≡◌, ◌⊎◌, inl, inr, ℕ, zero, suc, ◌+◌, ◌<◌, Bool, true, false, List, [], ◌∷◌, ◌++◌, map, take, length, Contains, Option, Some, None, Result, Ok, Err, IfErr, refl, sym, ap, subst, ◌∙◌, arith}
use Rattle.std.proofs.Math.Seq.{take-length}
use Rattle.std.proofs.lemmas.List.Elements.{Contains-append_left, Contains-append_right, Contains-push}
use Rattle.std.proofs.lemmas.List.Sums.{sum_by-cons}
use Rattle.std.specs.List.{sum_by}
use Rattle.std.specs.Option.{option_map}
use Rattle.std.specs.Fmt.{option_append}
use Rattle.std.specs.Result.{IsErrAnd}
use Rattle.tl_cert_output.specs.declared.stop.Stop.{Stop}
use Rattle.tl_cert_output.specs.declared.stop.Stop.TheVariants.{Record, Memory, Device, Budget}
use Rattle.tl_cert_output.specs.Stops.{StopsFor, TellsDevice}
use Rattle.tigertopo_files.specs.Joining.{joined_bytes, closed, failures_of}
use Rattle.tigertopo_files.proofs.FailureLemmas.{some_failed}
use Rattle.tigertopo_files.specs.Files.{Under, bytes_under}
use Rattle.tigertopo_files.specs.Log.{Log, Fails, together, with_opened}
use Rattle.tigertopo_files.specs.World.{World, Does, Failed, SomeMissing, MayStop, LogsReading}
use Rattle.tigertopo_files.specs.Reading.{MayFail, SomePassing, Tells, TellsReads, all_names, failures_in, single_under, text_under}
use Rattle.tl_cert_output.proofs.StopLemmas.{stops_for}

-- ---- the joined text

joined_of : {A : Type 0} (f : A → Option (List ℕ)) (before : Bool) (xs : List A) → joined_bytes f before xs ≡ joined_bytes (λ (o : Option (List ℕ)). o) before (map f xs)
joined_of f before [] = refl
joined_of f before (x ∷ xs) = ap (λ rest. option_append (option_map (closed before) (f x)) rest) (joined_of f false xs)

joined_names : {A B : Type 0} (f : B → Option (List ℕ)) (h : A → B) (before : Bool) (xs : List A) → joined_bytes (λ x. f (h x)) before xs ≡ joined_bytes f before (map h xs)
joined_names f h before [] = refl
joined_names f h before (x ∷ xs) = ap (λ rest. option_append (option_map (closed before) (f (h x))) rest) (joined_names f h false xs)

-- readers that give the bytes that stand under names give the joined text of the names
pub joined_under : {A B : Type 0} (f : A → Option (List ℕ)) (h : B → List ℕ) (under : Under) (readers : List A) (names : List B) → map f readers ≡ map (λ name. bytes_under under (h name)) names
    → joined_bytes f false readers ≡ text_under under (map h names)
joined_under f h under readers names same =
    joined_of f false readers ∙ ap (joined_bytes (λ (o : Option (List ℕ)). o) false) same ∙ sym (joined_of (λ name. bytes_under under (h name)) false names) ∙ joined_names (bytes_under under) h false names

-- ---- reads that fail

-- some of several sources failed
first_or_later : {A : Type 0} (f : A → ℕ) (x : A) (xs : List A) (n : ℕ) → n ≡ f x → (0 < sum_by f xs → MayFail f) → 0 < sum_by f (x ∷ xs) → MayFail f
first_or_later f x xs zero is later some = let sum = sum_by-cons f x xs in later (omega (arith, sum, some, is))
first_or_later f x xs (suc n) is later some = (x, omega (arith, is))

some_source : {A : Type 0} (f : A → ℕ) (xs : List A) → 0 < sum_by f xs → MayFail f
some_source f [] some = absurd (omega (arith, some))
some_source f (x ∷ xs) some = first_or_later f x xs (f x) refl (some_source f xs) some

module _ {A B : Type 0} (f : A → ℕ) (h : B → A) where
  some_reader : (single : Option B) → 0 < failures_in (λ b. f (h b)) single → MayFail f
  some_reader None some = absurd (omega (arith, some))
  some_reader (Some source) some = (h source, some)

  pub either_failed : (readers : List A) (single : Option B) → 0 < failures_of f readers + failures_in (λ b. f (h b)) single → MayFail f
  either_failed readers single some = by_many (failures_of f readers) refl
    where
      by_many : (n : ℕ) → n ≡ failures_of f readers → MayFail f
      by_many zero is = some_reader single (omega (arith, is, some))
      by_many (suc n) is = some_source f readers (some_failed f readers (omega (arith, is)))

-- of the one of two sources nothing was read
pub tells_joined : {T : Type 0} (other : Type 0) (old new single : ℕ) (r : Result T Stop) → old ≡ 0 → single ≡ 0 → TellsDevice old new r → TellsReads other (new + single) r
tells_joined other old new single (Ok t) fresh none tells = omega (arith, fresh, none, tells)
tells_joined other old new single (Err (Record line cause)) fresh none tells = omega (arith, fresh, none, tells)
tells_joined other old new single (Err Memory) fresh none tells = omega (arith, fresh, none, tells)
tells_joined other old new single (Err Device) fresh none tells = inl (omega (arith, fresh, none, tells))
tells_joined other old new single (Err Budget) fresh none tells = omega (arith, fresh, none, tells)

-- ---- one of the files can't be opened

pub among_all : (names : List (List ℕ)) (single : Option (List ℕ)) (name : List ℕ) → Contains names name → Contains (all_names names single) name
among_all names None name there = there
among_all names (Some single) name there = Contains-append_left names (single ∷ []) name there

pub missing_joined : (under : Under) (names : List (List ℕ)) (single : Option (List ℕ)) (stop : Stop) → StopsFor (SomeMissing under names) stop → StopsFor (SomeMissing under (all_names names single)) stop
missing_joined under names single stop = stops_for _ _ stop (λ missing. (missing.0, among_all names single missing.0 missing.1, missing.2))

missing_last : (under : Under) (names : List (List ℕ)) (single : Option (List ℕ)) → single_under under single ≡ None → SomeMissing under (all_names names single)
missing_last under names None is = absurd (let wrong = is in cc)
missing_last under names (Some name) is = (name, Contains-push names name, is)

pub missing_single : (under : Under) (names : List (List ℕ)) (single : Option (List ℕ)) (stop : Stop) → StopsFor (single_under under single ≡ None) stop → StopsFor (SomeMissing under (all_names names single)) stop
missing_single under names single stop = stops_for _ _ stop (missing_last under names single)

pub passing_last : (under : Under) (names : List (List ℕ)) (name : List ℕ) → SomePassing under (name ∷ []) → SomePassing under (all_names names (Some name))
passing_last under names name passing = (passing.0, Contains-append_right names (name ∷ []) passing.0 passing.1, passing.2)

pub missing_alone : (under : Under) (names : List (List ℕ)) (name : List ℕ) (stop : Stop) → StopsFor (SomeMissing under (name ∷ [])) stop → StopsFor (SomeMissing under (all_names names (Some name))) stop
missing_alone under names name stop = stops_for _ _ stop (λ missing. (missing.0, Contains-append_right names (name ∷ []) missing.0 missing.1, missing.2))

-- ---- what is told

module _ {T : Type 0} (answers : T → Type 0) (stops : Stop → Type 0) (failed : Type 0) where
  -- files can't be opened
  pub not_opened : (r : Result T Stop) (stop : Stop) → IsErrAnd r (λ told. told ≡ stop) → StopsFor failed stop → Tells answers stops failed r
  not_opened (Ok t) stop is why = absurd is
  not_opened (Err told) stop is why = subst (λ s. Tells answers stops failed (Err s)) (sym is) (by_stop stop why)
    where
      by_stop : (stop : Stop) → StopsFor failed stop → Tells answers stops failed (Err stop)
      by_stop (Record line cause) why = absurd why
      by_stop Memory why = record { answered = tt; stopped = tt; device = λ e. absurd (cc) }
      by_stop Device why = record { answered = tt; stopped = tt; device = λ e. inl why }
      by_stop Budget why = absurd why

  -- they are opened and read
  pub was_read : (t : T) → answers t → Tells answers stops failed (Ok t)
  was_read t answered = record { answered = answered; stopped = tt; device = λ e. absurd (cc) }

-- they are opened and read, and nothing is answered: so nothing is of what is made of the answer
module _ {A T : Type 0} (answers : T → Type 0) (stops : Stop → Type 0) (failed : Type 0) where
  pub was_stopped : (q : Result A Stop) (r : Result T Stop) (stop : Stop) (count : ℕ) → q ≡ Err stop → IsErrAnd r (λ told. told ≡ stop) → IfErr q (MayStop stops) → TellsReads (stops Device) count q → (0 < count → failed)
      → Tells answers stops failed r
  was_stopped q (Ok t) stop count was is stopped tells fails = absurd is
  was_stopped q (Err told) stop count was is stopped tells fails = subst (λ s. Tells answers stops failed (Err s)) (sym is) (by_stop stop (rw was at stopped) (subst (λ q. TellsReads (stops Device) count q) was tells))
    where
      by_stop : (stop : Stop) → MayStop stops stop → TellsReads {T = A} (stops Device) count (Err stop) → Tells answers stops failed (Err stop)
      by_stop (Record line cause) stopped tells = record { answered = tt; stopped = stopped; device = λ e. absurd (cc) }
      by_stop Memory stopped tells = record { answered = tt; stopped = tt; device = λ e. absurd (cc) }
      by_stop Device stopped tells = record { answered = tt; stopped = tt; device = λ e. elim tells [ inl some ↦ inl (fails some) | inr why ↦ inr why ] }
      by_stop Budget stopped tells = record { answered = tt; stopped = stopped; device = λ e. absurd (cc) }

-- of sources that never fail no read does
never_fails : {A : Type 0} (knows : Bool) (before after : Log) → MayFail (λ (source : A). 0) → Fails knows before after
never_fails knows before after fails = let some = fails.1 in absurd (omega (arith, some))

-- ---- what is done

-- no read of such files fails, or it isn't known what is done
module _ {T A : Type 0} (f : A → ℕ) (w : World) (names : List (List ℕ)) (answers : T → Type 0) (stops : Stop → Type 0) (never : MayFail f → Fails w.knows w.log w.logged) (stays : w.after ≡ w.before) where
  fails_so : SomeMissing w.before names ⊎ MayFail f → Failed w names
  fails_so (inl missing) = inl missing
  fails_so (inr may) = inr (never may)

  whole : w.logged ≡ with_opened w.log names → w.logged ≡ record w.log { opened = w.log.opened ++ take (length (together names)) (together names) }
  whole is = is ∙ ap (λ xs. record w.log { opened = w.log.opened ++ xs }) (sym (take-length (together names)))

  log_of : (r : Result T Stop) → w.logged ≡ with_opened w.log names → LogsReading w.log w.logged names r
  log_of (Ok t) is = is
  log_of (Err (Record line cause)) is = (length (together names), whole is)
  log_of (Err Memory) is = (length (together names), whole is)
  log_of (Err Device) is =
      (length (together names), 0, whole is ∙ ap (λ n. record w.log { opened = w.log.opened ++ take (length (together names)) (together names); failures = n }) (omega (arith)))
  log_of (Err Budget) is = (length (together names), whole is)

  does_lend : (r : Result T Stop) → Tells answers stops (SomeMissing w.before names ⊎ MayFail f) r → (w.knows ≡ true → w.logged ≡ with_opened w.log names) → Does w names None answers stops r
  does_lend r tells logs = record {
    answered = tells.answered;
    stopped = tells.stopped;
    device = λ e. elim (tells.device e) [ inl fails ↦ inl (fails_so fails) | inr why ↦ inr why ];
    keeps = stays;
    unmade = unmade_of r;
    logged = λ known. log_of r (logs known);
  }
    where
      unmade_of : (r : Result T Stop) → IfErr r (λ stop. w.after ≡ w.before)
      unmade_of (Ok t) = tt
      unmade_of (Err stop) = stays

-- the same of files of which no read fails
pub does_lend_well : {T A : Type 0} (w : World) (names : List (List ℕ)) (answers : T → Type 0) (stops : Stop → Type 0) → w.after ≡ w.before → (r : Result T Stop)
    → Tells answers stops (SomeMissing w.before names ⊎ MayFail (λ (source : A). 0)) r → (w.knows ≡ true → w.logged ≡ with_opened w.log names) → Does w names None answers stops r
does_lend_well {T} {A} w names answers stops stays = does_lend (λ (source : A). 0) w names answers stops (never_fails w.knows w.log w.logged) stays
