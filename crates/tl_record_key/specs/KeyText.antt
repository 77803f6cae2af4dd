-- What is printed of a polygon's key.
use Rattle.std.specs.Prelude.{ℕ, ◌==◌, if◌then◌else◌, List, [], ◌∷◌, ◌++◌, codes, decimal, slice_index}
use Rattle.std.specs.Char.{encode_utf8}
use Rattle.tl_record_key.specs.declared.key.PolyKey.{PolyKey}

-- a blank is printed as an underscore, any other byte as the character of its number
abbrev pub shown_byte : ℕ → ℕ
shown_byte b = if b == 32 then 95 else b

-- the characters of the five bytes of a CENID
abbrev pub shown_cenid : PolyKey → List ℕ
shown_cenid k = shown_byte (slice_index k.cenid 0) ∷ shown_byte (slice_index k.cenid 1) ∷ shown_byte (slice_index k.cenid 2)
    ∷ shown_byte (slice_index k.cenid 3) ∷ shown_byte (slice_index k.cenid 4) ∷ []

-- the byte of a CENID at a place from 0
abbrev pub cenid_text : PolyKey → ℕ → List ℕ
cenid_text k place = encode_utf8 (shown_byte (slice_index k.cenid place))

-- the five bytes of the CENID, `/` and the POLYID
abbrev pub key_text : PolyKey → List ℕ
key_text k =
    cenid_text k 0 ++ (cenid_text k 1 ++ (cenid_text k 2 ++ (cenid_text k 3 ++ (cenid_text k 4 ++ (codes "/" ++ decimal k.polyid)))))
