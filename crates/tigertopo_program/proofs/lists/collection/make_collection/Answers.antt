use Rattle.std.proofs.Common.{map, string_bytes}
use Rattle.std.specs.Prelude.{option_copied}
use Rattle.tigertopo_faults.specs.Records.Keeping.{held}
use Rattle.tigertopo_faults.specs.Geojson.Texts.{faults_text}
use Rattle.tigertopo_files.proofs.WorldLemmas.{does_make}
use Rattle.tigertopo_program.specs.Records.{StopsNever}
use Rattle.tigertopo_program.proofs.lists.collection.make_collection.Goals as goal

pub returns : goal.returns
returns g c =
    let u = g.F.FileSystem.under c.args.files.now in
    let after = g.F.FileSystem.under c.make_file.new.files in
    let l = g.F.FileSystem.log c.args.files.now in
    let q = g.F.FileSystem.log c.make_file.new.files in
    let text = faults_text (map string_bytes c.args.names.now) c.args.spoken.now.counts.items (option_copied c.args.drawn) (held c.args.spoken.now.lines) c.args.spoken.now.places.items c.args.faults.now c.args.touched c.args.refused.now in
    rw c.in-Some.is (does_make {T = Unit {0}} u after l q g.F.FileSystem.knows (string_bytes c.in-Some.name) text StopsNever c.make_file.result
    (rw (c.as_str.ensures.value, c.as_slice.ensures.value, c.as_slice-2.ensures.value) at c.make_file.ensures.made) c.make_file.ensures.logged)
