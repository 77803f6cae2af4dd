-- What is kept of records until all of them are told, and what they are then.
use Rattle.std.specs.Prelude.{◌≡◌, List, [], ◌∷◌, Option, Some, None}
use Rattle.tl_record.specs.declared.record.Record.{Record}
use Rattle.tl_record.specs.Joining.{joined_one}
use Rattle.tl_map.specs.declared.joined.told.ToldRecords.{ToldRecords}
use Rattle.tl_map.specs.Joined.Keeping.Told.{AreAllTwins}

-- these records are kept, in this order, and where each tells what
pub record HasTold (rs : List Record) (told : ToldRecords) : Type 0 where
  pub records : told.records.items ≡ rs
  pub twins : AreAllTwins rs told.twins

abbrev pub before_rest : Option Record → List Record → List Record
before_rest None rest = rest
before_rest (Some r) rest = r ∷ rest

-- what is left of these records where all are joined
abbrev pub joined_rest : List Record → List Record → List Record
joined_rest rs [] = []
joined_rest rs (r ∷ behind) = before_rest (joined_one rs r behind) (joined_rest rs behind)

-- the records with each chain that is told twice once
abbrev pub joined_records : List Record → List Record
joined_records rs = joined_rest rs rs
