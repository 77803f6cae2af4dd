-- What drawing a county answers.
use Rattle.std.proofs.Common.{◌≡◌, inl, List, ℕ, Option, refl, sym, subst}
use Rattle.std.specs.Option.{IfSome}
use Rattle.tl_record.specs.declared.options.Options.{Options}
use Rattle.tl_record.specs.Layout.{layout_with}
use Rattle.tl_record.specs.Records.{records_of}
use Rattle.tl_map_rules.specs.Reading.{IsReadFrom}
use Rattle.tigertopo_pictures.specs.Svg.Fills.{Filling}
use Rattle.tigertopo_files.specs.Files.{StandsUnder}
use Rattle.tigertopo_files.specs.World.{World}
use Rattle.tigertopo_program.specs.declared.answer.Answer.TheVariants.{Drawn as Drawing}
use Rattle.tigertopo_program.specs.declared.answer.Answer.{Answer}
use Rattle.tigertopo_program.specs.Answers.{IsSaid}
use Rattle.tigertopo_program.specs.declared.draw.subject.Subject.{Subject}
use Rattle.tigertopo_program.specs.Draw.Subjects.{AreToShow}
use Rattle.tigertopo_program.specs.Draw.Drawing.{DrawAnswers, IsFilled, Wanted, drawn_of, picture_by, picture_with}

module _ (w : World) (options : Options) (known : Option (List ℕ)) (wanted : Wanted) where
  -- the picture of what was read stands
  pub says_drawn : (subject : Subject)
      → IfSome known (λ held. IsReadFrom (records_of (layout_with options) held) subject.map × AreToShow options.faces wanted.shows subject.map subject.faults.items subject.touched)
      → (answer : Answer) (filling : Option Filling) → IsFilled subject.map filling
      → StandsUnder w.after wanted.name (picture_with subject.map (picture_by wanted.view subject.map subject.faults.items) filling subject.faults.items)
      → answer ≡ (Drawing (drawn_of (picture_by wanted.view subject.map subject.faults.items) wanted.shows subject))
      → IsSaid (DrawAnswers w options known wanted) answer
  says_drawn subject drawn answer filling filled kept is =
      subst (IsSaid (DrawAnswers w options known wanted)) (sym is) (
      inl (record {
        map = subject.map;
        faults = subject.faults.items;
        touched = subject.touched;
        drawn = drawn;
        filling = filling;
        filled = filled;
        kept = kept;
        is = refl;
        line = refl;
      })
      )
