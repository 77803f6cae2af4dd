-- What a command reads and makes.
use Rattle.std.specs.Prelude.{List, [], ◌∷◌, ◌++◌, ℕ, map, string_bytes}
use Rattle.tigertopo_words.specs.declared.asked.Asked.{Asked}
use Rattle.tigertopo_words.specs.declared.asked.Asked.TheVariants.{Audit, Check, Convert, Export, Draw, Border}
use Rattle.tigertopo_words.specs.declared.asked.Command.{Command}
use Rattle.tigertopo_files.specs.declared.beginning.FileKind.{FileKind}
use Rattle.tigertopo_files.specs.declared.beginning.FileKind.TheVariants.{Certificate, Collection, Picture, Records}

-- the names of the files that are read, in their order, where those of the records are `names`: the certificate's is the last
abbrev pub names_with : Asked → (names : List (List ℕ)) → List (List ℕ)
names_with (Check cert budget) names = names ++ string_bytes cert ∷ []
names_with (Convert cert made) names = string_bytes cert ∷ []
names_with other names = names

abbrev pub names_read : Command → List (List ℕ)
names_read command = names_with command.asked (map string_bytes command.files.items)

-- the names of the files that are read where one is made
abbrev pub inputs_with : Asked → (names : List (List ℕ)) → List (List ℕ)
inputs_with (Convert cert made) names = string_bytes cert ∷ []
inputs_with other names = names

abbrev pub inputs_of : Command → List (List ℕ)
inputs_of command = inputs_with command.asked (map string_bytes command.files.items)

-- the kind of the file that is made, where one is
abbrev pub kind_of : Asked → FileKind
kind_of (Audit told form made) = Collection
kind_of (Export made layer) = Collection
kind_of (Draw made view faults) = Picture
kind_of (Border cenid made) = Records
kind_of other = Certificate
