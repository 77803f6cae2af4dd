use Rattle.tigertopo_files.proofs.JoiningLemmas.{joined_bytes-known}
use Rattle.tigertopo_files.proofs.joined.JoinedSources.new.Goals as goal

pub returns-clause-known : goal.returns-clause-known
returns-clause-known g c = λ texts known. joined_bytes-known g.R.Source.remaining c.args.readers.items texts known
