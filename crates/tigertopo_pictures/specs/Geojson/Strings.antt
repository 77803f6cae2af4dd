-- Keys of polygons as strings of JSON.
use Rattle.std.specs.Prelude.{ℕ, List, ◌++◌, codes, decimal}
use Rattle.tl_record_key.specs.declared.key.PolyKey.{PolyKey}
use Rattle.tl_record_key.specs.KeyText.{key_text}
use Rattle.tl_list_text.specs.Keys.{whole_cenid}
use Rattle.tigertopo_words.specs.Json.{string_text}

-- the key of a polygon as a string
abbrev pub key_string : PolyKey → List ℕ
key_string key = string_text (key_text key)

-- what a feature has of its polygon: the key, and the CENID and the POLYID apart
unfoldable pub key_members : PolyKey → List ℕ
key_members key =
    codes "\"polygon\":" ++ key_string key ++ codes ",\"cenid\":" ++ string_text (whole_cenid key) ++ codes ",\"polyid\":" ++ decimal key.polyid
