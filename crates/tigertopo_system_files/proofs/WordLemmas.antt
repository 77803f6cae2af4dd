-- The words of an error.
use Rattle.std.proofs.Common.{◌≡◌, ℕ, List, Some, Result, Ok, Err, IfOk, codes, ◌∙◌}
use Rattle.std.specs.Str.Pattern.{FindsText, SplitsAroundMatch}
use Rattle.tigertopo_system_files.specs.Calls.{IsWithoutNumber}

-- they stand before its number
pub before_number : {A E : Type 0} (bytes : A → List ℕ) (answer : Result A E) (text words rest : List ℕ) → SplitsAroundMatch (FindsText (codes " (os error ")) text words rest
    → IfOk answer (λ it. bytes it ≡ words) → IfOk answer (λ it. IsWithoutNumber text (bytes it))
before_number bytes (Ok it) text words rest splits is = (Some (splits.0, splits.1), splits.2, is ∙ splits.3)
before_number bytes (Err error) text words rest splits is = tt
