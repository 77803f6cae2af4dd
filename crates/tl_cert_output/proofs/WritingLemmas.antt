-- What writes tell of failures and of what the sink took.
use Rattle.std.proofs.Common.{◌≡◌, ℕ, List, [], Result, Ok, Err, refl, sym, ap, subst, ◌∙◌, arith, false, length, take, drop}
use Rattle.std.proofs.Common.{take-append-drop}
use lib.Seq.{take-append_seam}
use Rattle.std.specs.Io.KnownBytes.{Appends}
use Rattle.std.proofs.lemmas.Bool.Decides.{nat_tests}
use Rattle.std.specs.Prelude.{◌==◌, ◌&&◌, ◌≢◌, not, if◌then◌else◌, Option, OnOk}
use Rattle.tl_record.specs.Failures.{one_more}
use Rattle.std.specs.Result.{IsErr}
use Rattle.tl_cert_output.specs.Writing.{PassesSome, TriesToPassOn, CountsFailure, FailsToWrite, WritesSome}

-- a write that took some bytes has not failed
pub no_failure : (taken count size : ℕ) → taken ≢ 0
    → (if taken == 0 && not (size == 0) then one_more count else count) ≡ count
no_failure taken count size some =
    let other : (taken == 0) ≡ false = grind (arith, nat_tests) in
    rw other refl

-- the sink took the front of a text
pub passes_front : (old new : Option (List ℕ)) (n : ℕ) (text : List ℕ) → Appends old new (take n text) → PassesSome old new [] text
passes_front old new n text grown =
    record { lost = drop n text; passes = record { taken = take n text; grown = grown; whole = take-append-drop n text } }

-- what the sink took is a beginning of the text
pub writes_some : {S : Type 0} (contents : S → Option (List ℕ)) (failures : S → ℕ) (old new : S) (text : List ℕ)
    → PassesSome (contents old) (contents new) [] text → FailsToWrite failures old new → WritesSome contents failures old new text
writes_some contents failures old new text some failure =
    let p = some.passes in
    record {
      len = length p.taken;
      grown =
          subst (Appends (contents old) (contents new))
          (sym (take-append_seam p.taken some.lost) ∙ ap (take (length p.taken)) p.whole) p.grown;
      failure = failure;
    }

-- ---- what an error says, in the form in which `?` passes it on

pub nothing_ok : {T E : Type 0} (P : Type 0) (r : Result T E) → IsErr r → OnOk r P
nothing_ok P (Ok x) h = absurd (cc)
nothing_ok P (Err e) h = tt

pub passes_err : {T E : Type 0} (old new : Option (List ℕ)) (held kept text : List ℕ) (r : Result T E) → IsErr r → PassesSome old new held text → TriesToPassOn old new held kept text r
passes_err old new held kept text (Ok x) h p = absurd (cc)
passes_err old new held kept text (Err e) h p = p

pub counts_err : {T E : Type 0} (old new : ℕ) (r : Result T E) → IsErr r → new ≡ one_more old → CountsFailure old new r
counts_err old new (Ok x) h e = absurd (cc)
counts_err old new (Err e) h f = f
