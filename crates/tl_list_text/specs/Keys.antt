-- What is printed of a polygon's key.
use Rattle.std.specs.Prelude.{ℕ, List, ◌++◌}
use Rattle.tl_record_key.specs.declared.key.PolyKey.{PolyKey}
use Rattle.tl_record_key.specs.KeyText.{cenid_text}

-- the five bytes of its CENID, each blank as an underscore
abbrev pub whole_cenid : PolyKey → List ℕ
whole_cenid key = cenid_text key 0 ++ (cenid_text key 1 ++ (cenid_text key 2 ++ (cenid_text key 3 ++ cenid_text key 4)))
