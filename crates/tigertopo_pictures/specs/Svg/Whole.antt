-- The whole text of a picture.
use Rattle.std.specs.Prelude.{ℕ, List, ◌++◌, codes, Option}
use Rattle.tl_geom.specs.declared.rational.Rational.{Rational}
use Rattle.tl_map_county.specs.TheMap.{TheMap}
use Rattle.tl_check_verdict.specs.declared.fault.MapFault.{MapFault}
use Rattle.tigertopo_pictures.specs.declared.svg.picture.Picture.{Picture}
use Rattle.tigertopo_pictures.specs.Svg.Texts.{size_text, style_text, chains_part, marks_part, faults_part, key_part}
use Rattle.tigertopo_pictures.specs.Svg.Fills.{Filling, fills_part}

-- the picture of a map with these faults, which lie at these places; its polygons are filled where there is something to fill them by
unfoldable pub picture_text : TheMap → Picture → Option Filling → List MapFault → List (Option Rational) → List ℕ
picture_text m picture filling faults places =
    size_text picture.frame ++ style_text ++ fills_part picture.frame m filling ++ chains_part picture m ++ marks_part picture m
    ++ faults_part picture.frame faults places ++ key_part picture faults ++ codes "</svg>\n"
