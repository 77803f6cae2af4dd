-- Sources and sinks that answer an error of their own at one call.
use Rattle.std.specs.Prelude.{◌≡◌, ℕ, zero, suc, Option, None, Some}
use Rattle.tl_record.specs.declared.fail_at.FailAt.{FailAt}
use Rattle.tl_record.specs.declared.fail_at_out.FailAtOut.{FailAtOut}
use Rattle.tl_record.specs.Failures.{one_more}

-- what answers but for that call
abbrev pub source_of : {R : Type 0} → FailAt R → R
source_of failing = failing.source

abbrev pub sink_of : {W : Type 0} → FailAtOut W → W
sink_of failing = failing.sink

-- how many calls come before the one that fails, none where it was made
abbrev pub reads_before : {R : Type 0} → FailAt R → Option ℕ
reads_before failing = failing.calls_before

abbrev pub writes_before : {W : Type 0} → FailAtOut W → Option ℕ
writes_before failing = failing.calls_before

-- the failures so far: those of what answers else, and the one of its own once it was made
abbrev pub with_own : Option ℕ → ℕ → ℕ
with_own None count = one_more count
with_own (Some _) count = count

-- a call counts down: it is the one that fails where none comes before it, and no other is
abbrev pub CountsDown : (old new : Option ℕ) → (fails passes : Type 0) → Type 0
CountsDown None new fails passes = (new ≡ None) × passes
CountsDown (Some zero) new fails passes = (new ≡ None) × fails
CountsDown (Some (suc calls)) new fails passes = (new ≡ Some calls) × passes
