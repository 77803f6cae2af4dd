-- Kept on the way: what of a listing is drawn or told. No public contract cites this file.
use Rattle.std.specs.Prelude.{ℕ, List, [], Option, None, option_map, slice_get, Result, Ok, Err}
use Rattle.tl_cert_output.specs.declared.stop.Stop.{Stop}
use Rattle.tl_check_verdict.specs.declared.fault.MapFault.{MapFault}
use Rattle.tl_list_text.specs.declared.listing.Listing.{Listing}
use Rattle.tl_list_text.specs.declared.listing.Listing.TheVariants.{Sound, Refused, Faults}
use Rattle.tigertopo_program.specs.Lists.Keeping.{stop_of_refusal}

-- the faults that are listed
abbrev pub listed_faults : Listing → List MapFault
listed_faults (Sound report) = []
listed_faults (Refused list) = []
listed_faults (Faults faults touched) = faults.items

-- how many polygons they touch
abbrev pub listed_touched : Listing → ℕ
listed_touched (Sound report) = 0
listed_touched (Refused list) = 0
listed_touched (Faults faults touched) = touched

-- the first of what is listed of records that have no map
abbrev pub first_listed : Listing → Option (Result MapFault Stop)
first_listed (Sound report) = None
first_listed (Refused list) = option_map (λ refusal. Err (stop_of_refusal refusal)) (slice_get list.items 0)
first_listed (Faults faults touched) = option_map (λ fault. Ok fault) (slice_get faults.items 0)
