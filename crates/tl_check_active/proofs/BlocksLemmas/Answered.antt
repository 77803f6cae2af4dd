-- What is read off a call that may be refused memory.
use Rattle.std.proofs.Common.{Result, Ok, Err, IfOk}

-- what holds whatever is answered
pub ok_by : {A E : Type 0} {P : Type 0} (answered : Result A E) → P → IfOk answered (λ done. P)
ok_by (Ok answer) p = p
ok_by (Err error) p = tt

-- what follows where something is done
pub still_ok : {A E : Type 0} (answered : Result A E) (P Q : Type 0) → (P → Q) → IfOk answered (λ done. P) → IfOk answered (λ done. Q)
still_ok (Ok answer) P Q f p = f p
still_ok (Err error) P Q f p = tt

-- the same of what holds of an answer
pub ok_more : {A E : Type 0} (answered : Result A E) (P Q : A → Type 0) → ((answer : A) → P answer → Q answer) → IfOk answered P → IfOk answered Q
ok_more (Ok answer) P Q f p = f answer p
ok_more (Err error) P Q f p = tt
