-- What stands under the names of a file system.
use Rattle.std.specs.Prelude.{◌≡◌, ◌≢◌, ◌++◌, ◌==◌, ◌||◌, ℕ, nat_eq, Bool, true, false, List, length, Option, Some, None, Contains, IfSome, Result, Ok, Err, codes}
use Rattle.std.specs.List.{starts_with}
use Rattle.tigertopo_files.specs.declared.beginning.FileKind.{FileKind}
use Rattle.tigertopo_files.specs.declared.beginning.FileKind.TheVariants.{Certificate, Collection, Picture, Records}
use Rattle.tigertopo_files.specs.declared.file_system.Room.{Room}
use Rattle.tigertopo_files.specs.declared.file_system.Room.TheVariants.{Free, Taken, IsRead, TakenBeside, IsReadBeside}
use Rattle.tl_cert_output.specs.declared.stop.Stop.{Stop}
use Rattle.tl_cert_output.specs.Stops.{StopsFor}

-- what is known of a name: nothing, or what stands under it, which is no file or one of these bytes
abbrev pub Known : Type 0
Known = Option (Option (List ℕ))

-- what is known of each name
abbrev pub Under : Type 0
Under = List ℕ → Known

-- the bytes that stand under a name, where a file does whose bytes are known
abbrev pub bytes_of : Known → Option (List ℕ)
bytes_of None = None
bytes_of (Some file) = file

abbrev pub bytes_under : Under → List ℕ → Option (List ℕ)
bytes_under under name = bytes_of (under name)

-- why what stands under a name can't be opened: no file does
abbrev pub trouble_of : Option (List ℕ) → Option (List ℕ)
trouble_of None = Some (codes "No such file or directory")
trouble_of (Some bytes) = None

-- a file of these bytes stands there, where they are known
abbrev pub standing : Option (List ℕ) → Known
standing None = None
standing (Some bytes) = Some (Some bytes)

-- the name of a new file that isn't whole yet
abbrev pub beside : List ℕ → List ℕ
beside name = name ++ codes ".unfinished"

-- how each file of a kind begins, so that it is known for one that this program has made
abbrev pub beginning_of : FileKind → List ℕ
beginning_of Certificate = codes "TIGERCERT "
beginning_of Collection = codes "{\"type\":\"FeatureCollection\",\"name\":\"tigertopo\""
beginning_of Picture = codes "<svg xmlns=\"http://www.w3.org/2000/svg\" class=\"tigertopo\""
beginning_of Records = codes "1EDGE"

-- may a file of these bytes be written over by one of the kind: there are none, or they begin as those of the kind do
abbrev pub may_go : FileKind → List ℕ → Bool
may_go kind bytes = (length bytes == 0) || starts_with nat_eq bytes (beginning_of kind)

-- may a file of these bytes be one of the kind that an earlier run left unfinished: they begin as those of the kind do, or end before
-- that could be told
abbrev pub may_be_left : FileKind → List ℕ → Bool
may_be_left kind bytes = starts_with nat_eq bytes (beginning_of kind) || starts_with nat_eq (beginning_of kind) bytes

-- a new file of the kind may take the name, where the files of the names `read` are read: what stands there may be written over and
-- isn't read, and so what stands under the name of one that isn't whole yet
pub record IsFree (under : Under) (name : List ℕ) (read : List (List ℕ)) (kind : FileKind) : Type 0 where
  pub may_go : IfSome (under name) (λ file. IfSome file (λ bytes. may_go kind bytes ≡ true) × ¬ Contains read name)
  pub beside : IfSome (under (beside name)) (λ file. IfSome file (λ bytes. may_be_left kind bytes ≡ true) × ¬ Contains read (beside name))

-- a file of these bytes stands under the name, where it is known what does
abbrev pub StandsAs : Under → List ℕ → (List ℕ → Type 0) → Type 0
StandsAs under name P = IfSome (under name) (λ file. (bytes : List ℕ) × (file ≡ Some bytes) × P bytes)

-- the answer to whether a file of the kind may be made of a name, where the names `read` are read
abbrev pub IsRoom : Under → List ℕ → List (List ℕ) → FileKind → Room → Type 0
IsRoom under name read kind Free = IsFree under name read kind
IsRoom under name read kind Taken = StandsAs under name (λ bytes. may_go kind bytes ≡ false)
IsRoom under name read kind IsRead = IfSome (under name) (λ file. Contains read name)
IsRoom under name read kind TakenBeside = StandsAs under (beside name) (λ bytes. may_be_left kind bytes ≡ false)
IsRoom under name read kind IsReadBeside = IfSome (under (beside name)) (λ file. Contains read (beside name))

-- what stands under each name is what stood there, but under this one and under that of one that isn't whole yet
abbrev pub KeepsBut : Under → Under → List ℕ → Type 0
KeepsBut before after name = (other : List ℕ) → other ≢ name → other ≢ beside name → after other ≡ before other

-- so it is under this one, too
abbrev pub KeepsEach : Under → Under → List ℕ → Type 0
KeepsEach before after name = (other : List ℕ) → other ≢ beside name → after other ≡ before other

-- the text stands under the name
abbrev pub StandsUnder : Under → List ℕ → List ℕ → Type 0
StandsUnder after name text = IfSome (after name) (λ file. file ≡ Some text)

-- a file of the text was made, or none was and each name is as it was; `failed` says that a device failed
abbrev pub MakesFile : {T : Type 0} → Under → Under → List ℕ → (failed : Type 0) → List ℕ → Result T Stop → Type 0
MakesFile before after name failed text (Ok done) = KeepsBut before after name × StandsUnder after name text
MakesFile before after name failed text (Err stop) = KeepsEach before after name × StopsFor failed stop
