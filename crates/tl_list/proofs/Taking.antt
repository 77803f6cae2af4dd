-- Records as they come, or until they are joined.
use Rattle.std.proofs.Common.{ℕ, ◌+◌, ◌<◌, Bool, true, false, List, [], ◌∷◌, ◌++◌, length, take, get_or, add-one}
use Rattle.std.proofs.Math.Seq.{take-suc}
use Rattle.std.specs.Prelude.{Result, OnOk, IfOk}
use Rattle.tl_record.specs.declared.record.Record.{Record}
use Rattle.tl_map.specs.declared.joined.told.ToldRecords.{ToldRecords}
use Rattle.tl_map.specs.Joined.Told.{HasTold, joined_records}
use Rattle.tl_map.specs.declared.collected.CollectedRecords.{CollectedRecords}
use Rattle.tl_map.specs.Collecting.{HasCollected}
use Rattle.tl_list.specs.declared.reading.Taken.TheVariants.{Kept, Told}
use Rattle.tl_list.specs.Keeping.Reading.{Takes, joined_if}

-- one more record is taken
pub adds_kept : {T E : Type 0} (joins : Bool) (rs : List Record) (r : Record) (old new : CollectedRecords) (result : Result T E)
    → ((rs : List Record) → HasCollected rs old → OnOk result (HasCollected (rs ++ r ∷ []) new)) → Takes joins rs (Kept old) → OnOk result (Takes joins (rs ++ r ∷ []) (Kept new))
adds_kept false rs r old new result adds takes = adds rs takes
adds_kept true rs r old new result adds takes = absurd takes

pub adds_told : {T E : Type 0} (joins : Bool) (rs : List Record) (r : Record) (old new : ToldRecords) (result : Result T E)
    → ((rs : List Record) → HasTold rs old → OnOk result (HasTold (rs ++ r ∷ []) new)) → Takes joins rs (Told old) → OnOk result (Takes joins (rs ++ r ∷ []) (Told new))
adds_told false rs r old new result adds takes = absurd takes
adds_told true rs r old new result adds takes = adds rs takes

-- what was taken is kept
pub keeps_held : (joins : Bool) (rs : List Record) (held : CollectedRecords) → Takes joins rs (Kept held) → HasCollected (joined_if joins rs) held
keeps_held false rs held takes = takes
keeps_held true rs held takes = absurd takes

pub keeps_told : {E : Type 0} (joins : Bool) (rs : List Record) (told : ToldRecords) (result : Result CollectedRecords E)
    → ((rs : List Record) → HasTold rs told → IfOk result (HasCollected (joined_records rs))) → Takes joins rs (Told told) → IfOk result (HasCollected (joined_if joins rs))
keeps_told false rs told result keeps takes = absurd takes
keeps_told true rs told result keeps takes = keeps rs takes

pub some_told : (joins : Bool) (rs : List Record) (told : ToldRecords) → Takes joins rs (Told told) → HasTold rs told
some_told false rs told takes = absurd takes
some_told true rs told takes = takes

-- one more record is kept
pub keeps_next : (items : List Record) (i : ℕ) (d : Record) (a b : CollectedRecords) → i < length items → ((rs : List Record) → HasCollected rs a → HasCollected (rs ++ get_or items i d ∷ []) b)
    → HasCollected (take i items) a → HasCollected (take (i + 1) items) b
keeps_next items i d a b within adds keeps = rw (add-one, take-suc items i d within) (adds (take i items) keeps)
