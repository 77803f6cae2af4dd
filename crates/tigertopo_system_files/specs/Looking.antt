-- What is seen under names, and whether a file may be made there.
use Rattle.std.specs.Prelude.{◌≡◌, ℕ, Bool, true, false, List, length, Option, Some, None, IfSome, ⊤}
use Rattle.tigertopo_files.specs.Files.{IsRoom, may_go, may_be_left}
use Rattle.tigertopo_files.specs.declared.beginning.FileKind.{FileKind}
use Rattle.tigertopo_files.specs.declared.file_system.Room.{Room}
use Rattle.tigertopo_system_files.specs.declared.looking.Seen.{Seen}
use Rattle.tigertopo_system_files.specs.declared.looking.Seen.TheVariants as seen
use Rattle.tigertopo_system_files.specs.declared.looking.Standing.{Standing}
use Rattle.tigertopo_system_files.specs.declared.looking.Standing.TheVariants as standing
use Rattle.tigertopo_system_files.specs.declared.looking.Spot.{Spot}
use Rattle.tigertopo_system_files.specs.declared.looking.Spot.TheVariants as spot

-- the bytes that stand under each name, where a file does
abbrev pub Held : Type 0
Held = List ℕ → Option (List ℕ)

-- what is seen of it is so
abbrev pub IsSeenAs : Option (List ℕ) → Seen → Type 0
IsSeenAs None seen.Nothing = ⊤
IsSeenAs (Some bytes) seen.Nothing = ⊥
IsSeenAs file seen.NoFile = ⊥
IsSeenAs None (seen.File size) = ⊥
IsSeenAs (Some bytes) (seen.File size) = size ≡ length bytes

-- what stands there is this, by which bytes may go and whether it is read
abbrev pub IsStanding : (may : List ℕ → Bool) → Option (List ℕ) → (is_read : Type 0) → Standing → Type 0
IsStanding may file is_read standing.Free = IfSome file (λ bytes. may bytes ≡ true) × ¬ is_read
IsStanding may file is_read standing.NoFile = ⊥
IsStanding may file is_read standing.IsRead = is_read
IsStanding may file is_read standing.Stays = (bytes : List ℕ) × (file ≡ Some bytes) × (may bytes ≡ false)

-- which bytes may go there
abbrev pub may_at : Spot → FileKind → List ℕ → Bool
may_at spot.Name kind bytes = may_go kind bytes
may_at spot.Beside kind bytes = may_be_left kind bytes

-- the answer to whether a file of the kind may be made of a name, where the names `read` are read
abbrev pub IsRoomAt : Held → List ℕ → List (List ℕ) → FileKind → Room → Type 0
IsRoomAt held name read kind room = IsRoom (λ other. Some (held other)) name read kind room
