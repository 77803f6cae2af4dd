-- Files that are read again, by what stands under their names and what is logged.
use Rattle.std.proofs.Common.{◌≡◌, ◌⊎◌, ℕ, ◌<◌, Bool, true, false, List, [], ◌∷◌, None, Result, Ok, Err, Contains, map, length, get_or, refl, sym, ap, subst, inl, inr, ◌∙◌, arith}
use Rattle.std.specs.Result.{IsErrAnd}
use Rattle.tigertopo_files.specs.Files.{Under, bytes_under}
use Rattle.tigertopo_files.specs.Log.{Log, Fails, LogsAgain}
use Rattle.tigertopo_files.specs.Reading.{DoesAgain, SomePassing}
use Rattle.tigertopo_files.specs.World.{World, Failed, SomeMissing}
use Rattle.tl_cert_output.specs.declared.stop.Stop.{Stop}
use Rattle.tl_cert_output.specs.declared.stop.Stop.TheVariants.{Record, Memory, Device, Budget}
use Rattle.tl_cert_output.specs.Stops.{StopsFor}
use Rattle.tl_cert_output.proofs.StopLemmas.{stops_for}
use Rattle.tigertopo_faults.specs.Hint.Telling.{HaveTexts}
use Rattle.tigertopo_faults.specs.Hint.Again.{FailsAgain, HasNoEnd, SomeEndless}
use Rattle.tigertopo_faults.proofs.HintLemmas.HintLemmas.{not_known, only}

-- ---- why files can't be read again

-- why nothing is answered
pub stops_again : {T : Type 0} (w : World) (names : List (List ℕ)) (answers : T → Type 0) (other : Type 0) (stop : Stop) → DoesAgain w names answers (StopsFor other) (Err stop) → StopsFor (Failed w names ⊎ other) stop
stops_again w names answers other (Record line cause) does = does.told.stopped
stops_again w names answers other Memory does = tt
stops_again w names answers other Device does = does.told.device refl
stops_again w names answers other Budget does = does.told.stopped

-- so it is of one file
fails_one : (w : World) (name : List ℕ) → Failed w (name ∷ []) ⊎ HasNoEnd (bytes_under w.before name) → FailsAgain w (name ∷ [])
fails_one w name (inl failed) = inl failed
fails_one w name (inr endless) = inr (name, (0, omega arith, refl), endless)

pub stops_one : {T : Type 0} (w : World) (name : List ℕ) (answers : T → Type 0) (stop : Stop) → DoesAgain w (name ∷ []) answers (StopsFor (HasNoEnd (bytes_under w.before name))) (Err stop)
    → StopsFor (FailsAgain w (name ∷ [])) stop
stops_one w name answers stop does = stops_for _ _ stop (fails_one w name) (stops_again w (name ∷ []) answers _ stop does)

-- what fails of one of the names fails of them
pub fails_among : (w : World) (names : List (List ℕ)) (name : List ℕ) → Contains names name → FailsAgain w (name ∷ []) → FailsAgain w names
fails_among w names name here (inl (inl missing)) = inl (inl (missing.0, subst (Contains names) (only name missing.0 missing.1) here, missing.2))
fails_among w names name here (inl (inr fails)) = inl (inr fails)
fails_among w names name here (inr endless) = inr (endless.0, subst (Contains names) (only name endless.0 endless.1) here, endless.2)

-- it failed behind what was read well
fails_from : (k : Bool) (l m q : Log) → (k ≡ true → m ≡ l) → Fails k m q → Fails k l q
fails_from k l m q same (inl unknown) = inl unknown
fails_from false l m q same (inr more) = inl refl
fails_from true l m q same (inr more) = inr (subst (λ (log : Log). log.failures < q.failures) (same refl) more)

pub fails_behind : (u v after : Under) (l m q : Log) (k : Bool) (names : List (List ℕ)) → v ≡ u → (k ≡ true → m ≡ l)
    → FailsAgain (record { before = v; after = after; log = m; logged = q; knows = k }) names → FailsAgain (record { before = u; after = after; log = l; logged = q; knows = k }) names
fails_behind u v after l m q k names stays same (inl (inl missing)) = inl (inl (subst (λ (under : Under). SomeMissing under names) stays missing))
fails_behind u v after l m q k names stays same (inl (inr fails)) = inl (inr (fails_from k l m q same fails))
fails_behind u v after l m q k names stays same (inr endless) = inr (subst (λ (under : Under). SomeEndless under names) stays endless)

-- the file of a name can be read but once
pub passing_one : (under : Under) (name : List ℕ) → SomePassing under (name ∷ []) → under name ≡ None
passing_one under name passing = ap under (only name passing.0 passing.1) ∙ passing.2

-- what is logged where nothing is answered, behind files that were read well
logs_as : (T U : Type 0) (m q : Log) (stop : Stop) → LogsAgain {T = U} m q (Err stop) → LogsAgain {T = T} m q (Err stop)
logs_as T U m q (Record line cause) logs = logs
logs_as T U m q Memory logs = logs
logs_as T U m q Device logs = logs
logs_as T U m q Budget logs = logs

pub stops_logged : {T : Type 0} (U : Type 0) (l m q : Log) (r : Result T Stop) (stop : Stop) → IsErrAnd r (λ told. told ≡ stop) → m ≡ l → LogsAgain {T = U} m q (Err stop) → LogsAgain l q r
stops_logged U l m q (Ok value) stop is same logs = absurd is
stops_logged {T} U l m q (Err told) stop is same logs =
    subst (λ (log : Log). LogsAgain {T = T} log q (Err told)) same (subst (λ (s : Stop). LogsAgain {T = T} m q (Err s)) (sym is) (logs_as T U m q stop logs))

-- the file of one of the names can be read but once, and so not all texts are known
pub passing_among : {A : Type 0} (h : A → List ℕ) (under now : Under) (names : List A) (i : ℕ) (name : A) → i < length names → name ≡ get_or names i name → now ≡ under → SomePassing now (h name ∷ [])
    → (texts : List (List ℕ)) → HaveTexts under (map h names) texts → ⊥
passing_among h under now names i name within is stays passing =
    not_known h under names i name (h name) within is refl (subst (λ (u : Under). u (h name) ≡ None) stays (passing_one now (h name) passing))
