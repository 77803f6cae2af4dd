-- Borders that are read again.
use Rattle.std.specs.Prelude.{◌≡◌, ℕ, List, None}
use Rattle.tl_record.specs.Layout.{tiger_2006}
use Rattle.tl_record.specs.Records.{records_of}
use Rattle.tl_map_county.specs.TheMap.{TheMap}
use Rattle.tl_map_rules.specs.Faults.{HaveNoFault}
use Rattle.tl_map_rules.specs.Reading.{IsReadFrom, records_in}
use Rattle.tigertopo_border.specs.Whole.Borders.{IsBorderOf}
use Rattle.tigertopo_border.specs.Border.{border_text}

-- no line of the border's text is refused, and its records have no fault; they draw a map, and what they draw is the border of the map
pub record IsReadAgain (name : List ℕ) (m : TheMap) : Type 0 where
  pub no_refusal : (records_of tiger_2006 (border_text name m)).refusal ≡ None
  pub no_fault : HaveNoFault (records_in (records_of tiger_2006 (border_text name m)))
  pub border : TheMap
  pub drawn : IsReadFrom (records_of tiger_2006 (border_text name m)) border
  pub is_border : (b : TheMap) → IsReadFrom (records_of tiger_2006 (border_text name m)) b → IsBorderOf m b
