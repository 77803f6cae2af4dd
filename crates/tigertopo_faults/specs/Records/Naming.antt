-- The subjects that name a record.
use Rattle.std.specs.Prelude.{◌==◌, ◌&&◌, Bool, false, Option, None, Some}
use Rattle.tl_record.specs.declared.record.Record.{Record}
use Rattle.tl_record.specs.declared.record.Record.TheVariants.{Chain, Shape, Sides, PolyPoint, Landmark, AreaLink}
use Rattle.tl_map_rules.specs.MapOf.{same_key}
use Rattle.tigertopo_faults.specs.declared.records.subject.Subject.{Subject}
use Rattle.tigertopo_faults.specs.declared.records.subject.Subject.TheVariants as subject
use Rattle.tigertopo_faults.specs.Records.SpokenOf.{Subjects}

-- the subjects that name a record
abbrev pub subjects_naming : Record → Subjects
subjects_naming (Chain tlid from to) = (Some (subject.Chain tlid), Some (subject.Drawn tlid))
subjects_naming (Shape tlid rtsq pairs) = (Some (subject.Shape tlid), Some (subject.Drawn tlid))
subjects_naming (Sides tlid start_cell end_cell left right) = (Some (subject.Sides tlid), None)
subjects_naming (PolyPoint key point) = (Some (subject.Polygon key), None)
subjects_naming (Landmark land point) = (None, None)
subjects_naming (AreaLink key land) = (Some (subject.Link key land), Some (subject.Land land))

-- are these one subject
abbrev pub same_subject : Subject → Subject → Bool
same_subject (subject.Chain t) (subject.Chain u) = t == u
same_subject (subject.Shape t) (subject.Shape u) = t == u
same_subject (subject.Drawn t) (subject.Drawn u) = t == u
same_subject (subject.Sides t) (subject.Sides u) = t == u
same_subject (subject.Polygon k) (subject.Polygon l) = same_key k l
same_subject (subject.Land n) (subject.Land m) = n == m
same_subject (subject.Link k n) (subject.Link l m) = same_key k l && (n == m)
same_subject s t = false

-- is this the subject
abbrev pub is_subject : Option Subject → Subject → Bool
is_subject None s = false
is_subject (Some t) s = same_subject t s
