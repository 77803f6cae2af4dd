-- What is drawn, and what is answered then.
--
-- `w` is what became of files, and `known` the text of the records, where it is known.
use Rattle.std.specs.Prelude.{◌≡◌, ◌⊎◌, ℕ, Bool, true, false, List, map, Option, Some, None, IfSome, ⊤}
use Rattle.tl_geom.specs.declared.rational.Rational.{Rational}
use Rattle.tl_record.specs.declared.options.Options.{Options}
use Rattle.tl_record.specs.Layout.{layout_with}
use Rattle.tl_record.specs.Records.{records_of}
use Rattle.tl_map_rules.specs.Reading.{IsReadFrom}
use Rattle.tl_map_county.specs.TheMap.{TheMap}
use Rattle.tigertopo_files.specs.Files.{StandsUnder}
use Rattle.tigertopo_files.specs.World.{World, Unmade}
use Rattle.tl_cert_output.specs.Writing.{line_of}
use Rattle.tigertopo_words.specs.declared.asked.View.{View}
use Rattle.tl_check_verdict.specs.declared.fault.MapFault.{MapFault}
use Rattle.tl_check_verdict.specs.Sound.{IsSound}
use Rattle.tigertopo_faults.specs.Lines.Places.{fault_place}
use Rattle.tigertopo_pictures.specs.declared.svg.frame.Frame.{Frame}
use Rattle.tigertopo_pictures.specs.declared.svg.picture.Picture.{Picture}
use Rattle.tigertopo_pictures.specs.Svg.Frames.{fitted, frame_at}
use Rattle.tigertopo_pictures.specs.Svg.Pictures.{picture_of, chain_count, fault_count}
use Rattle.tigertopo_pictures.specs.Svg.Fills.{Filling, IsFillingOf}
use Rattle.tigertopo_pictures.specs.Svg.Whole.{picture_text}
use Rattle.tigertopo_program.specs.declared.answer.Drawn.{Drawn}
use Rattle.tigertopo_program.specs.declared.answer.Answer.TheVariants.{Drawn as Drawing}
use Rattle.tigertopo_program.specs.declared.answer.Answer.{Answer}
use Rattle.tigertopo_program.specs.Answers.{TellsRecordFault}
use Rattle.tigertopo_program.specs.Texts.{drawn_text}
use Rattle.tigertopo_program.specs.declared.draw.subject.Subject.{Subject}
use Rattle.tigertopo_program.specs.Draw.Subjects.{AreToShow}

-- where the faults of a map lie
abbrev pub places_of : TheMap → List MapFault → List (Option Rational)
places_of m faults = map (fault_place (Some m)) faults

-- the frame of a picture that shows these faults of a map: about a place, or fitted to the map and to where they lie
abbrev pub frame_of : Option View → TheMap → List MapFault → Frame
frame_of None m faults = fitted m.chains (places_of m faults)
frame_of (Some view) m faults = frame_at view.center view.width

-- how the map is drawn then
abbrev pub picture_by : Option View → TheMap → List MapFault → Picture
picture_by view m faults = picture_of (frame_of view m faults) m

-- by this the polygons of a sound map are filled, and nothing is of one that isn't sound
abbrev pub IsFilled : TheMap → Option Filling → Type 0
IsFilled m None = ¬ IsSound m
IsFilled m (Some filling) = IsSound m × IsFillingOf m filling

-- the picture of a map with these faults, each at its place
abbrev pub picture_with : TheMap → Picture → Option Filling → List MapFault → List ℕ
picture_with m picture filling faults = picture_text m picture filling faults (places_of m faults)

-- the number of faults that are shown, where they are asked for
abbrev pub shown_count : Bool → Frame → TheMap → List MapFault → Option ℕ
shown_count false f m faults = None
shown_count true f m faults = Some (fault_count f (places_of m faults))

-- how much a picture shows
abbrev pub drawn_of : Picture → Bool → Subject → Drawn
drawn_of picture shows subject =
    record {
      chains = chain_count picture subject.map;
      faults = shown_count shows picture.frame subject.map subject.faults.items;
      touched = subject.touched;
    }

-- what is wanted: a picture of this name, of the whole map or of a place in it, with faults or without
pub record Wanted : Type 0 where
  pub name : List ℕ
  pub view : Option View
  pub shows : Bool

-- the picture of a map with these faults stands, and this is answered
pub record IsDrawnOf (w : World) (wanted : Wanted) (subject : Subject) (answer : Answer) : Type 0 where
  pub filling : Option Filling
  pub filled : IsFilled subject.map filling
  pub kept : StandsUnder w.after wanted.name (picture_with subject.map (picture_by wanted.view subject.map subject.faults.items) filling subject.faults.items)
  pub is : answer ≡ (Drawing (drawn_of (picture_by wanted.view subject.map subject.faults.items) wanted.shows subject))

-- with the status 0 the line of what the picture shows: that of the map that the records draw, with the faults to show, which stands
pub record TellsDrawn (w : World) (options : Options) (known : Option (List ℕ)) (wanted : Wanted) (status : ℕ) (text : List ℕ) : Type 0 where
  pub map : TheMap
  pub faults : List MapFault
  pub touched : ℕ
  pub drawn : IfSome known (λ held. IsReadFrom (records_of (layout_with options) held) map × AreToShow options.faces wanted.shows map faults touched)
  pub filling : Option Filling
  pub filled : IsFilled map filling
  pub kept : StandsUnder w.after wanted.name (picture_with map (picture_by wanted.view map faults) filling faults)
  pub is : status ≡ 0
  pub line : text ≡ line_of (drawn_text (chain_count (picture_by wanted.view map faults) map)
      (shown_count wanted.shows (picture_by wanted.view map faults).frame map faults) touched)

-- what `draw` answers: that, or the fault of the records, and then no file was made
abbrev pub DrawAnswers : World → Options → (known : Option (List ℕ)) → Wanted → ℕ → List ℕ → Type 0
DrawAnswers w options known wanted status text =
    TellsDrawn w options known wanted status text
    ⊎ (TellsRecordFault (layout_with options) known (λ fault. ⊤) status text × Unmade w (Some wanted.name))
