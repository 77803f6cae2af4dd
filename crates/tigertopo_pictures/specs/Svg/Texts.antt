-- The text of a picture.
use Rattle.std.specs.Prelude.{ℕ, ◌+◌, ◌*◌, ◌/◌, max, ◌==◌, nat_le, Bool, int_lt, ℤ, pos, ◌+ℤ◌, ◌-ℤ◌, if◌then◌else◌, not, List, [], ◌∷◌, ◌++◌, codes, decimal, Option, flat_map, zip, slice_get, length, ◌-◌}
use Rattle.std.specs.Option.{option_map_or}
use Rattle.std.specs.Fmt.{signed_decimal}
use Rattle.tl_geom.specs.declared.point.Point.{Point}
use Rattle.tl_geom.specs.declared.rational.Rational.{Rational}
use Rattle.tl_map_county.specs.declared.polygons.Polygon.{Polygon}
use Rattle.tl_map_county.specs.TheMap.{TheMap}
use Rattle.tl_check_verdict.specs.declared.fault.MapFault.{MapFault}
use Rattle.tl_check_verdict.specs.Rows.{row}
use Rattle.tl_check_verdict.specs.Messages.{row_text}
use Rattle.tigertopo_pictures.specs.declared.svg.frame.Frame.{Frame}
use Rattle.tigertopo_pictures.specs.declared.svg.frame.Spot.{Spot}
use Rattle.tigertopo_pictures.specs.declared.svg.walk.Stroke.{Stroke}
use Rattle.tigertopo_pictures.specs.declared.svg.picture.Picture.{Picture}
use Rattle.tigertopo_pictures.specs.declared.svg.places.Mark.{Mark}
use Rattle.tigertopo_pictures.specs.Svg.Frames.{side, spot_at, spot_of, reach_east, reach_south, is_inside}
use Rattle.tigertopo_pictures.specs.Svg.Strokes.{Drawing, is_shown}
use Rattle.tigertopo_pictures.specs.Svg.Pictures.{drawn, mark_if, is_mark_held}

-- two numbers behind a text, with a blank between them
abbrev pub pair_text : List ℕ → ℤ → ℤ → List ℕ
pair_text before x y = before ++ signed_decimal x ++ codes " " ++ signed_decimal y

-- the command that goes to a place
abbrev pub move_text : Spot → List ℕ
move_text s = pair_text (codes "M") s.x s.y

-- where a stroke starts, if it begins anew
abbrev pub start_text : Stroke → List ℕ
start_text s = if s.begins then move_text s.from else []

-- a stroke: behind its start how far it goes
unfoldable pub stroke_text : Stroke → List ℕ
stroke_text s = pair_text (start_text s ++ codes "l") (s.to.x -ℤ s.from.x) (s.to.y -ℤ s.from.y)

-- the strokes of a chain
abbrev pub drawing_text : Drawing → List ℕ
drawing_text d = flat_map stroke_text d.strokes

-- a dot at a point, where it lies in the picture: a line of no length, which has round ends
unfoldable pub dot_text : Frame → Point → List ℕ
dot_text f p = if is_inside f p then move_text (spot_of f p) ++ codes "h0" else []

-- the dot at a point of a chain, by its place
abbrev pub dot_at : Frame → List Point → ℕ → List ℕ
dot_at f points place = option_map_or (dot_text f) (slice_get points place) []

-- the dots at both ends of a chain of which something is drawn
abbrev pub ends_text : Frame → Drawing → List ℕ
ends_text f d = if is_shown d then dot_at f d.points 0 ++ dot_at f d.points (length d.points - 1) else []

-- the dot at a polygon's point
abbrev pub polygon_text : Frame → Polygon → List ℕ
polygon_text f polygon = dot_text f polygon.point

-- a byte of a text as it stands in the file: what would begin or end markup stands by its name
abbrev pub escaped_byte : ℕ → List ℕ
escaped_byte b =
    if b == 38 then codes "&amp;"
    else if b == 60 then codes "&lt;"
    else if b == 62 then codes "&gt;"
    else b ∷ []

-- what is said of a fault, as it stands in the file
abbrev pub title_text : MapFault → List ℕ
title_text fault = flat_map escaped_byte (row_text (row fault))

-- how the circle of a fault at a place begins
unfoldable pub circle_head : Spot → List ℕ
circle_head s = codes "<circle cx=\"" ++ signed_decimal s.x ++ codes "\" cy=\"" ++ signed_decimal s.y ++ codes "\" r=\"60\"><title>"

-- how wide a picture is that shows a place closer: a tenth of the degrees that this one is wide or high, whichever are more, and no less
-- than two millionths of a degree, so that about the whole millionths to the south-west of a fault it shows the fault
abbrev pub closer : Frame → ℕ
closer f = max (max f.wide f.high / 10) 2

-- what to type for a picture of a place by itself, behind a fault's title
unfoldable pub closer_text : Frame → Point → List ℕ
closer_text f p = codes "\n--at @" ++ signed_decimal p.x ++ codes "," ++ signed_decimal p.y ++ codes " --width " ++ decimal (closer f) ++ codes "</title></circle>"

-- does a place lie less than forty pixels from the eastern border of what is shown, so that a code finds no room to its east
abbrev pub is_eastern : Frame → Spot → Bool
is_eastern f s = int_lt (pos (reach_east f / side f)) (s.x +ℤ pos 400)

-- how a fault's code beside its circle begins, to the east or to the west of it
unfoldable pub east_label : Spot → List ℕ
east_label s = codes "<text class=\"code\" x=\"" ++ signed_decimal (s.x +ℤ pos 80) ++ codes "\" y=\"" ++ signed_decimal (s.y +ℤ pos 45) ++ codes "\">"

unfoldable pub west_label : Spot → List ℕ
west_label s =
    codes "<text class=\"code\" text-anchor=\"end\" x=\"" ++ signed_decimal (s.x -ℤ pos 80) ++ codes "\" y=\"" ++ signed_decimal (s.y +ℤ pos 45) ++ codes "\">"

abbrev pub label_head : Frame → Spot → List ℕ
label_head f s = if is_eastern f s then west_label s else east_label s

-- the circle of a fault at a place, with what is said of it and its code
abbrev pub circle_text : Frame → Mark → MapFault → List ℕ
circle_text f mark fault =
    circle_head (spot_at f mark.at) ++ title_text fault ++ closer_text f mark.corner ++ label_head f (spot_at f mark.at) ++ (row fault).0 ++ codes "</text>\n"

-- the same, where it lies in the picture
abbrev pub circle_at : Frame → MapFault → Mark → List ℕ
circle_at f fault mark = if is_mark_held f mark then circle_text f mark fault else []

-- the same of a fault that lies there, if it has a place
abbrev pub fault_text : Frame → MapFault → Option Rational → List ℕ
fault_text f fault place = option_map_or (circle_at f fault) (mark_if f place) []

-- how the file begins: what it shows, in tenths of a pixel, as wide as the window. Above the map are fifty pixels for what its marks mean
unfoldable pub size_text : Frame → List ℕ
size_text f =
    codes "<svg xmlns=\"http://www.w3.org/2000/svg\" class=\"tigertopo\" viewBox=\"-100 -600 " ++ decimal (reach_east f / side f + 200)
    ++ codes " " ++ decimal (reach_south f / side f + 700) ++ codes "\" style=\"width:100%;height:auto\">\n"

-- how each part is drawn: chains dark and thin, nodes black, polygons' points blue, faults red, on white, and of a polygon what lies in an odd
-- number of its rings; in a narrow window what is written is twice as large, in a wide one smaller
unfoldable pub style_text : List ℕ
style_text = codes "<style>path,circle{fill:none;vector-effect:non-scaling-stroke;stroke-linecap:round;stroke-linejoin:round}text{font:130px sans-serif;fill:#333;stroke:#fff;stroke-width:25px;paint-order:stroke}.chains,.chain{stroke:#333;stroke-width:1}.nodes,.node{stroke:#000;stroke-width:3.2}.points,.point{stroke:#07c;stroke-width:4}.scale{stroke:#333;stroke-width:1.5}circle,.fault{stroke:#d00;stroke-width:2;fill:#d00;fill-opacity:.2}.code{fill:#a00}.polygons path{fill-rule:evenodd}@media(max-width:700px){text{font-size:240px}circle{r:95px}}@media(min-width:1500px){text{font-size:90px}circle{r:45px}}</style>\n<rect x=\"-100\" y=\"-600\" width=\"100%\" height=\"100%\" fill=\"#fff\"/>\n"

-- the lines of chains
unfoldable pub chains_part : Picture → TheMap → List ℕ
chains_part picture m = codes "<path class=\"chains\" d=\"" ++ flat_map drawing_text (drawn picture m) ++ codes "\"/>\n"

-- the dots of nodes and of polygons' points
unfoldable pub nodes_part : Picture → TheMap → List ℕ
nodes_part picture m = codes "<path class=\"nodes\" d=\"" ++ flat_map (ends_text picture.frame) (drawn picture m) ++ codes "\"/>\n"

unfoldable pub points_part : Frame → TheMap → List ℕ
points_part f m = codes "<path class=\"points\" d=\"" ++ flat_map (polygon_text f) m.polygons ++ codes "\"/>\n"

-- the same, where they are marked
unfoldable pub marks_part : Picture → TheMap → List ℕ
marks_part picture m = if picture.is_marked then nodes_part picture m ++ points_part picture.frame m else []

-- the circles of faults, each at its place
unfoldable pub faults_part : Frame → List MapFault → List (Option Rational) → List ℕ
faults_part f faults places = flat_map (λ (it : MapFault × Option Rational). fault_text f it.0 it.1) (zip faults places)

-- how long the line may be that shows a scale, in hundredths of a metre
unfoldable pub scales : List ℕ
scales = 500000000 ∷ 200000000 ∷ 100000000 ∷ 50000000 ∷ 20000000 ∷ 10000000 ∷ 5000000 ∷ 2000000 ∷ 1000000 ∷ 500000 ∷ 200000 ∷ 100000 ∷ 50000 ∷ 20000 ∷ 10000 ∷ 5000 ∷ 2000 ∷ 1000 ∷ 500 ∷ 200 ∷ 100 ∷ 50 ∷ 20 ∷ 10 ∷ 5 ∷ 2 ∷ []

-- the first that is at most a quarter of the longer side, or else 1: a metre is nine millionths of a degree of latitude, as it was defined
-- first, ten millions of them from the equator to the pole
abbrev pub scale_of : (longer : ℕ) → List ℕ → ℕ
scale_of longer [] = 1
scale_of longer (length ∷ rest) = if nat_le (3600 * length) longer then length else scale_of longer rest

-- so many hundredths of a metre, with their unit
abbrev pub metres_text : ℕ → List ℕ
metres_text length =
    if nat_le 100000 length then decimal (length / 100000) ++ codes " km"
    else if nat_le 100 length then decimal (length / 100) ++ codes " m"
    else decimal length ++ codes " cm"

-- how long a line of so many hundredths of a metre is, in tenths of a pixel
abbrev pub scale_tenths : Frame → ℕ → ℕ
scale_tenths f length = 8820000 * length / side f

-- a scale of so many hundredths of a metre
unfoldable pub scale_line : Frame → ℕ → List ℕ
scale_line f length =
    codes "<path class=\"scale\" d=\"M0 -240v80m0 -40h" ++ decimal (scale_tenths f length) ++ codes "m0 -40v80\"/><text x=\"" ++ decimal (scale_tenths f length + 100)
    ++ codes "\" y=\"-155\">" ++ metres_text length ++ codes "</text>\n"

abbrev pub scale_part : Frame → List ℕ
scale_part f = scale_line f (scale_of (side f) scales)

-- above the map: what its lines, dots and circles mean
unfoldable pub chain_key : List ℕ
chain_key = codes "<rect x=\"-100\" y=\"-600\" width=\"100%\" height=\"500\" fill=\"#fff\"/>\n<path class=\"chain\" d=\"M0 -430h250\"/><text x=\"300\" y=\"-385\">chain</text>\n"

unfoldable pub marks_key : List ℕ
marks_key = codes "<path class=\"node\" d=\"M1200 -430h0\"/><text x=\"1300\" y=\"-385\">node</text>\n<path class=\"point\" d=\"M2100 -430h0\"/><text x=\"2200\" y=\"-385\">polygon's point</text>\n"

unfoldable pub faults_key : List ℕ
faults_key = codes "<path class=\"fault\" d=\"M4360 -430a60 60 0 1 0 120 0a60 60 0 1 0 -120 0\"/><text x=\"4560\" y=\"-385\">fault</text>\n"

-- what of these is in the picture, and its scale
abbrev pub key_part : Picture → List MapFault → List ℕ
key_part picture faults =
    chain_key ++ (if picture.is_marked then marks_key else []) ++ (if not (length faults == 0) then faults_key else []) ++ scale_part picture.frame
