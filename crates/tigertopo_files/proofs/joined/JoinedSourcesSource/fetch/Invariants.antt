use Rattle.std.proofs.Common.{◌≡◌, ◌-◌, drop, vec_len}
use Rattle.std.specs.Io.KnownBytes.{Keeps}
use Rattle.tigertopo_files.specs.Joining.{joined_bytes, failures_of}
use Rattle.tigertopo_files.proofs.joined.JoinedSourcesSource.fetch.Given as goal

abbrev pub invariant-loop-self : goal.invariant-loop-self
invariant-loop-self g l =
    Keeps (joined_bytes g.R.Source.remaining l.initial.self.is_open (drop l.initial.self.place l.initial.self.readers.items))
    (joined_bytes g.R.Source.remaining l.self.is_open (drop l.self.place l.self.readers.items))
    × (failures_of g.R.Source.failure_count l.self.readers.items ≡ failures_of g.R.Source.failure_count l.initial.self.readers.items)

abbrev pub decreases-loop-self : goal.decreases-loop-self
decreases-loop-self g l = vec_len l.self.readers - l.self.place
