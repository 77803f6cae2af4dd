-- Failures of a source that are counted behind others.
use Rattle.std.proofs.Common.{◌≡◌, ℕ, Result, Err, ap, sym, subst, ◌∙◌}
use Rattle.tl_record.specs.Failures.{one_more}
use Rattle.tl_cert.specs.declared.stop.CertStop.{CertStop}
use Rattle.tl_cert.specs.declared.stop.CertStop.TheVariants.{Text, Memory, Device}
use Rattle.tl_cert.specs.Keeping.Lines.{TellsRead}

-- a stop, where none was counted before
pub fails_later : (V W : Type 0) (old mid new : ℕ) (stop : CertStop) → mid ≡ old → TellsRead {V = V} mid new (Err stop) → TellsRead {V = W} old new (Err stop)
fails_later V W old mid new (Text line) same tells = tells ∙ same
fails_later V W old mid new Memory same tells = tells ∙ same
fails_later V W old mid new Device same tells = tells ∙ ap one_more same

-- any answer, where none was counted before
pub tells_later : (V : Type 0) (old mid new : ℕ) (answer : Result V CertStop) → mid ≡ old → TellsRead {V = V} mid new answer → TellsRead {V = V} old new answer
tells_later V old mid new answer same tells = subst (λ n. TellsRead {V = V} n new answer) same tells

-- a refusal of a line
pub refusal_tells : (V : Type 0) (old new : ℕ) (stop : CertStop) (line : ℕ) → stop ≡ Text line → new ≡ old → TellsRead {V = V} old new (Err stop)
refusal_tells V old new stop line is same = subst (λ s. TellsRead {V = V} old new (Err s)) (sym is) same
