-- Kept on the way: why nothing is built.
use Rattle.std.specs.Prelude.{⊤}
use Rattle.tl_map.specs.declared.unbuilt.Unbuilt.{Unbuilt}
use Rattle.tl_map.specs.declared.unbuilt.Unbuilt.TheVariants.{Memory, Faulty}

-- memory was refused, or why holds
abbrev pub StopsFor : Type 0 → Unbuilt → Type 0
StopsFor why Memory = ⊤
StopsFor why Faulty = why
