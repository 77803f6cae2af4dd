-- What is made of the answers of a system's calls.
use Rattle.std.specs.Prelude.{◌≡◌, ◌<◌, ◌^◌, ◌-◌, ℕ, Bool, true, false, List, [], length, take, codes, Option, Some, None, is_some, IfSome, MatchOption, Result, Ok, Err, refl}
use Rattle.std.specs.Io.KnownBytes.{IsAtEnd}
use Rattle.std.specs.IoError.{error_kind}
use Rattle.std.specs.Str.Pattern.{FindsText}
use Rattle.std.specs.declared.io.Error.{Error}
use Rattle.std.specs.declared.io.ErrorKind.{ErrorKind}
use Rattle.std.specs.declared.io.ErrorKind.TheVariants.{NotFound, OutOfMemory}
use Rattle.tigertopo_system_files.specs.declared.new_file.NewFile.{NewFile}
use Rattle.tl_cert_output.specs.declared.stop.Stop.{Stop}
use Rattle.tl_cert_output.specs.declared.stop.Stop.TheVariants.{Memory, Device}

-- what is told of an error of this kind
abbrev pub stop_for : ErrorKind → Stop
stop_for OutOfMemory = Memory
stop_for _ = Device

-- what is told of an answer
abbrev pub as_stop : {T : Type 0} → Result T Error → Result T Stop
as_stop (Ok value) = Ok value
as_stop (Err error) = Err (stop_for (error_kind error))

-- what is found where an error of this kind comes: nothing, or that isn't known
abbrev pub found_at : {T : Type 0} → ErrorKind → Error → Result (Option T) Error
found_at NotFound error = Ok None
found_at _ error = Err error

-- what was found
abbrev pub found_of : {T : Type 0} → Result T Error → Result (Option T) Error
found_of (Ok value) = Ok (Some value)
found_of (Err error) = found_at (error_kind error) error

-- the words of an error before its number, and all of them where it has none
abbrev pub IsWithoutNumber : List ℕ → List ℕ → Type 0
IsWithoutNumber text words = (o : Option (ℕ × ℕ)) × FindsText (codes " (os error ") text o × MatchOption o (words ≡ text) (λ at. words ≡ take at.0 text)

-- a source was read to its end, where its bytes are known and fewer than a u64 counts
abbrev pub ReadsAll : Option (List ℕ) → Option (List ℕ) → Type 0
ReadsAll old new = IfSome old (λ bytes. length bytes < 2 ^ 64 - 1 → IsAtEnd new)

-- what a file holds as it is made, where that is known
abbrev pub held_first : (is_known : Bool) → Option (List ℕ)
held_first true = Some []
held_first false = None

-- where a new file is made, and the file, if it is
abbrev pub place_of : {P F : Type 0} → NewFile P F → P
place_of new = new.bytes.place

abbrev pub file_of : {P F : Type 0} → NewFile P F → Option F
file_of new = new.bytes.file

-- what was written to a new file, made or not
abbrev pub held_by : {F : Type 0} → (F → Option (List ℕ)) → (is_known : Bool) → Option F → Option (List ℕ)
held_by contents is_known None = held_first is_known
held_by contents is_known (Some file) = contents file

-- of a file of which nothing is known nothing is, made or not
pub not_known : {F : Type 0} → (file : Option F) → is_some (held_by (λ (file : F). None) false file) ≡ false
not_known None = refl
not_known (Some file) = refl
