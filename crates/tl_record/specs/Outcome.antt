-- Fields that are read one after the other, up to the first that fails.
use Rattle.std.specs.Prelude.{Result, Ok, Err}
use Rattle.tl_record.specs.declared.stop.Cause.{Cause}

infixl 10 ◌>>=◌
abbrev pub ◌>>=◌ : {A B : Type 0} → Result A Cause → (A → Result B Cause) → Result B Cause
(Ok x) >>= f = f x
(Err cause) >>= f = Err cause
