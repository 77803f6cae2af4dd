-- What is told of a map where all that is wrong with it is asked for.
use Rattle.std.specs.Prelude.{◌≢◌, Bool, []}
use Rattle.tl_map_county.specs.TheMap.{TheMap}
use Rattle.tl_check_verdict.specs.Sound.{IsSoundFor}
use Rattle.tl_check_verdict.specs.Verdicts.{IsReport}
use Rattle.tl_list_text.specs.declared.listing.Listing.{Listing}
use Rattle.tl_list_text.specs.declared.listing.Listing.TheVariants.{Sound, Refused, Faults}
use Rattle.tl_decide.specs.declared.asked.Depth.TheVariants.{All}
use Rattle.tl_decide.specs.Deciding.{AreToldAt}

-- what is told of a map: it keeps what is asked of it, and these are its numbers; or these are all its faults, of which there is one. Where
-- all are of faces it is sound otherwise.
abbrev pub IsListingFor : (faces : Bool) → TheMap → Listing → Type 0
IsListingFor faces m (Sound report) = IsSoundFor faces m × IsReport m report
IsListingFor faces m (Refused list) = ⊥
IsListingFor faces m (Faults faults touched) =
    (faults.items ≢ []) × AreToldAt All faces m faults.items touched
