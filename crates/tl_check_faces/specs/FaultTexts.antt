-- What is printed of faces that disagree.
use Rattle.std.specs.Prelude.{ℕ, List, ◌++◌, Option, None, Some, codes, decimal}
use Rattle.std.specs.Fmt.{signed_decimal}
use Rattle.tl_geom.specs.declared.rational.Rational.{Rational}
use Rattle.tl_record_key.specs.declared.key.PolyKey.{PolyKey}
use Rattle.tl_record_key.specs.KeyText.{key_text}
use Rattle.tl_check_faces.specs.declared.fault.NamedFace.{NamedFace}
use Rattle.tl_check_faces.specs.declared.fault.Way.{Way}
use Rattle.tl_check_faces.specs.declared.fault.Way.TheVariants.{West, East}

-- a rational point: two numerators and their denominator
abbrev pub rational_text : Rational → List ℕ
rational_text r = signed_decimal r.x ++ codes " " ++ signed_decimal r.y ++ codes " " ++ signed_decimal r.d

-- the polygon of a key, or the outside
abbrev pub side_text : Option PolyKey → List ℕ
side_text None = codes "outside"
side_text (Some key) = codes "polygon " ++ key_text key

-- a chain, what it names on a side, and a place of it
abbrev pub named_face_text : NamedFace → List ℕ
named_face_text face = codes "tlid " ++ decimal face.tlid ++ codes " " ++ side_text face.polygon ++ codes " at " ++ rational_text face.at

-- a way along a line of one height
abbrev pub way_text : Way → List ℕ
way_text West = codes "west"
way_text East = codes "east"
