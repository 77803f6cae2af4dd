-- What is seen under names, and whether a file may be made there.
use Rattle.std.proofs.Common.{◌≡◌, ℕ, Bool, true, false, List, [], ◌∷◌, length, take, Option, Some, None, IfSome, Result, Ok, Err, IfOk, Contains, refl, sym, ap, ◌∙◌, arith}
use Rattle.std.proofs.lemmas.List.{take_all}
use Rattle.std.proofs.lemmas.Option.{same_Some}
use Rattle.tigertopo_files.specs.Files.{beside}
use Rattle.tigertopo_system_files.specs.Looking.{Held, IsSeenAs, IsStanding, IsRoomAt, may_at}
use Rattle.tigertopo_files.specs.declared.beginning.FileKind.{FileKind}
use Rattle.tigertopo_files.specs.declared.beginning.FileKind.TheVariants.{Certificate, Collection, Picture, Records}
use Rattle.tigertopo_files.specs.declared.file_system.Room.TheVariants as room
use Rattle.tigertopo_system_files.specs.declared.looking.Seen.TheVariants as seen
use Rattle.tigertopo_system_files.specs.declared.looking.Standing.{Standing}
use Rattle.tigertopo_system_files.specs.declared.looking.Standing.TheVariants as standing
use Rattle.tigertopo_system_files.specs.declared.looking.Spot.{Spot}
use Rattle.tigertopo_system_files.specs.declared.looking.Spot.TheVariants as spot

whole_of : (may : List ℕ → Bool) (goes : Bool) (size : ℕ) (file : Option (List ℕ)) → IfSome file (λ bytes. goes ≡ may (take size bytes)) → IfSome file (λ bytes. size ≡ length bytes → goes ≡ may bytes)
whole_of may goes size None is = tt
whole_of may goes size (Some bytes) is = λ all. is ∙ ap may (take_all size bytes (omega arith))

-- what the first bytes tell of a file's size is told of the file
pub whole_told : {E : Type 0} (may : List ℕ → Bool) (answer : Result Bool E) (held : Option Held) (known : Option (List ℕ)) (name : List ℕ) (size : ℕ)
    → IfSome held (λ at. known ≡ at name) → IfOk answer (λ goes. IfSome known (λ bytes. goes ≡ may (take size bytes)))
    → IfOk answer (λ goes. IfSome held (λ at. IfSome (at name) (λ bytes. size ≡ length bytes → goes ≡ may bytes)))
whole_told may (Err error) held known name size here is = tt
whole_told may (Ok goes) None known name size here is = tt
whole_told may (Ok goes) (Some at) known name size here is = whole_of may goes size (at name) (rw here at is)

empty_may : (spot : Spot) (kind : FileKind) → may_at spot kind [] ≡ true
empty_may spot.Name Certificate = refl
empty_may spot.Name Collection = refl
empty_may spot.Name Picture = refl
empty_may spot.Name Records = refl
empty_may spot.Beside Certificate = refl
empty_may spot.Beside Collection = refl
empty_may spot.Beside Picture = refl
empty_may spot.Beside Records = refl

empty_at : (may : List ℕ → Bool) (size : ℕ) (file : Option (List ℕ)) → size ≡ 0 → may [] ≡ true → IfSome file (λ bytes. size ≡ length bytes → true ≡ may bytes)
empty_at may size None none goes = tt
empty_at may size (Some []) none goes = λ all. sym goes
empty_at may size (Some (byte ∷ bytes)) none goes = λ all. absurd (omega (arith, none, all))

-- a file without bytes may go
pub empty_goes : (spot : Spot) (kind : FileKind) (held : Option Held) (name : List ℕ) (size : ℕ) → size ≡ 0 → IfSome held (λ at. IfSome (at name) (λ bytes. size ≡ length bytes → true ≡ may_at spot kind bytes))
empty_goes spot kind None name size none = tt
empty_goes spot kind (Some at) name size none = empty_at (may_at spot kind) size (at name) none (empty_may spot kind)

nothing_at : (may : List ℕ → Bool) (file : Option (List ℕ)) (is_read : Type 0) → IsSeenAs file seen.Nothing → ¬ is_read → IsStanding may file is_read standing.Free
nothing_at may None is_read seen none = (tt, none)
nothing_at may (Some bytes) is_read seen none = absurd seen

-- nothing stands there
pub nothing_stands : (may : List ℕ → Bool) (held : Option Held) (name : List ℕ) (read : List (List ℕ)) → IfSome held (λ at. IsSeenAs (at name) seen.Nothing) → IfSome held (λ at. ¬ Contains read name)
    → IfSome held (λ at. IsStanding may (at name) (Contains read name) standing.Free)
nothing_stands may None name read seen none = tt
nothing_stands may (Some at) name read seen none = nothing_at may (at name) (Contains read name) seen none

no_file_at : (file : Option (List ℕ)) → IsSeenAs file seen.NoFile → ⊥
no_file_at None seen = seen
no_file_at (Some bytes) seen = seen

-- no regular file does
pub no_file_stands : (may : List ℕ → Bool) (held : Option Held) (name : List ℕ) (read : List (List ℕ)) → IfSome held (λ at. IsSeenAs (at name) seen.NoFile)
    → IfSome held (λ at. IsStanding may (at name) (Contains read name) standing.NoFile)
no_file_stands may None name read seen = tt
no_file_stands may (Some at) name read seen = no_file_at (at name) seen

goes_at : (may : List ℕ → Bool) (file : Option (List ℕ)) (size : ℕ) (is_read : Type 0) → IsSeenAs file (seen.File size) → IfSome file (λ bytes. size ≡ length bytes → true ≡ may bytes) → ¬ is_read → IsStanding may file is_read standing.Free
goes_at may None size is_read seen goes none = absurd seen
goes_at may (Some bytes) size is_read seen goes none = (sym (goes seen), none)

-- a file does that may go
pub goes_there : (may : List ℕ → Bool) (held : Option Held) (name : List ℕ) (read : List (List ℕ)) (size : ℕ) → IfSome held (λ at. IsSeenAs (at name) (seen.File size))
    → IfSome held (λ at. IfSome (at name) (λ bytes. size ≡ length bytes → true ≡ may bytes)) → IfSome held (λ at. ¬ Contains read name)
    → IfSome held (λ at. IsStanding may (at name) (Contains read name) standing.Free)
goes_there may None name read size seen goes none = tt
goes_there may (Some at) name read size seen goes none = goes_at may (at name) size (Contains read name) seen goes none

stays_at : (may : List ℕ → Bool) (file : Option (List ℕ)) (size : ℕ) (is_read : Type 0) → IsSeenAs file (seen.File size) → IfSome file (λ bytes. size ≡ length bytes → false ≡ may bytes) → IsStanding may file is_read standing.Stays
stays_at may None size is_read seen stays = absurd seen
stays_at may (Some bytes) size is_read seen stays = (bytes, refl, sym (stays seen))

-- a file does that may not
pub stays_there : (may : List ℕ → Bool) (held : Option Held) (name : List ℕ) (read : List (List ℕ)) (size : ℕ) → IfSome held (λ at. IsSeenAs (at name) (seen.File size))
    → IfSome held (λ at. IfSome (at name) (λ bytes. size ≡ length bytes → false ≡ may bytes))
    → IfSome held (λ at. IsStanding may (at name) (Contains read name) standing.Stays)
stays_there may None name read size seen stays = tt
stays_there may (Some at) name read size seen stays = stays_at may (at name) size (Contains read name) seen stays

-- what stands under the name of a file that isn't whole yet
pub stands_there : {S E : Type 0} (bytes : S → List ℕ) (other : S) (may : List ℕ → Bool) (answer : Result Standing E) (held : Option Held) (name text : List ℕ) (read : List (List ℕ))
    → IfSome held (λ at. Some (bytes other) ≡ Some (beside name)) → text ≡ bytes other
    → IfOk answer (λ standing. IfSome held (λ at. IsStanding may (at text) (Contains read text) standing))
    → IfOk answer (λ standing. IfSome held (λ at. IsStanding may (at (beside name)) (Contains read (beside name)) standing))
stands_there bytes other may (Err error) held name text read is same stands = tt
stands_there bytes other may (Ok standing) None name text read is same stands = tt
stands_there bytes other may (Ok standing) (Some at) name text read is same stands = rw (same ∙ same_Some (bytes other) (beside name) is) at stands

-- nothing is written beside a name where it is known what stands there
pub none_beside : (P : Held → Type 0) (held : Option Held) (name : List ℕ) → IfSome held (λ at. None ≡ Some (beside name)) → IfSome held P
none_beside P None name is = tt
none_beside P (Some at) name is = absurd (cc)

-- no regular file stands there, which is never known
pub never : (P : Held → Type 0) (held : Option Held) → IfSome held (λ at. ⊥) → IfSome held P
never P None is = tt
never P (Some at) is = absurd is

-- it may be made there
pub free_there : (held : Option Held) (name : List ℕ) (read : List (List ℕ)) (kind : FileKind) → IfSome held (λ at. IsStanding (may_at spot.Name kind) (at name) (Contains read name) standing.Free)
    → IfSome held (λ at. IsStanding (may_at spot.Beside kind) (at (beside name)) (Contains read (beside name)) standing.Free) → IfSome held (λ at. IsRoomAt at name read kind room.Free)
free_there None name read kind here there = tt
free_there (Some at) name read kind here there = record { may_go = here; beside = there }
