-- Why no file may be made of a name.
use Rattle.std.specs.Prelude.{◌≡◌, ℕ, List, codes}
use Rattle.tigertopo_files.specs.declared.beginning.FileKind.{FileKind}
use Rattle.tigertopo_files.specs.declared.beginning.FileKind.TheVariants.{Certificate, Collection, Picture, Records}
use Rattle.tigertopo_files.specs.declared.file_system.Room.{Room}
use Rattle.tigertopo_files.specs.declared.file_system.Room.TheVariants.{Free, Taken, IsRead, TakenBeside, IsReadBeside}
use Rattle.tl_cert_output.specs.Writing.{line_of}
use Rattle.tl_cert_output.specs.Streams.{Stream, Tries}

-- what is said where another file stands under the name of a new one of the kind
abbrev pub taken_text : FileKind → List ℕ
taken_text Certificate = codes "OUT stands and is no certificate"
taken_text Collection = codes "OUT stands and is no GeoJSON of tigertopo"
taken_text Picture = codes "OUT stands and is no picture of tigertopo"
taken_text Records = codes "OUT stands and is no border of tigertopo"

-- the same of the name of one that isn't whole yet
abbrev pub taken_beside_text : FileKind → List ℕ
taken_beside_text Certificate = codes "OUT.unfinished stands and is no certificate"
taken_beside_text Collection = codes "OUT.unfinished stands and is no GeoJSON of tigertopo"
taken_beside_text Picture = codes "OUT.unfinished stands and is no picture of tigertopo"
taken_beside_text Records = codes "OUT.unfinished stands and is no border of tigertopo"

-- what is said where no file of the kind may be made
abbrev pub refusal_text : FileKind → Room → List ℕ
refusal_text kind Free = codes ""
refusal_text kind Taken = taken_text kind
refusal_text kind IsRead = codes "OUT is one of the files that are read"
refusal_text kind TakenBeside = taken_beside_text kind
refusal_text kind IsReadBeside = codes "OUT.unfinished is one of the files that are read"

-- no file of the kind may be made of the name, where those of `read` are read: what stands there, or beside it, is none of its kind, or
-- is one of those. That was told, with the status 64
pub record RefusesName (out err : Stream) (status : ℕ) (kind : FileKind) (is_room : Room → Type 0) : Type 0 where
  pub room : Room
  pub taken : (room ≡ Free) → ⊥
  pub so : is_room room
  pub is : status ≡ 64
  pub told : Tries err (line_of (refusal_text kind room))
  pub same : out.same
