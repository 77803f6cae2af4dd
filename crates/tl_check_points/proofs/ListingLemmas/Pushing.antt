-- What a push leaves that went well.
use Rattle.std.proofs.Common.{◌≡◌, Result, Ok, Err, false, cond, List, [], ◌∷◌, ◌++◌}
use Rattle.std.specs.Result.{is_ok, is_err}

-- where no error came, the item stands behind those before
pub pushed : {X U E : Type 0} (r : Result U E) (old new : List X) (x : X) → new ≡ cond (is_ok r) (old ++ x ∷ []) old → is_err r ≡ false →
    new ≡ old ++ x ∷ []
pushed (Ok v) old new x told fine = told
pushed (Err e) old new x told fine = absurd cc
