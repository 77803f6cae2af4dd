use Rattle.std.proofs.Common.{◌≡◌, Bool, true, false, Result, Ok, Err}
use Rattle.std.specs.Prelude.{IfErr, MatchBool}
use Rattle.tl_map.specs.declared.unbuilt.Unbuilt.{Unbuilt}
use Rattle.tl_map.specs.declared.unbuilt.Unbuilt.TheVariants.{Memory, Faulty}
use Rattle.tl_map.specs.Keeping.Unbuilt.{StopsFor}

-- why nothing is built, by what follows from it
pub stops_for : (P Q : Type 0) (stop : Unbuilt) → (P → Q) → StopsFor P stop → StopsFor Q stop
stops_for P Q Memory to why = tt
stops_for P Q Faulty to why = to why

-- where records are faulty, that is why
pub faulty : (P : Type 0) (stop : Unbuilt) → stop ≡ Faulty → StopsFor P stop → P
faulty P stop is why = rw is at why

-- what holds is so wherever records are faulty
pub where_faulty : {T P : Type 0} (r : Result T Unbuilt) → P → IfErr r (StopsFor P)
where_faulty (Ok made) p = tt
where_faulty (Err Memory) p = tt
where_faulty (Err Faulty) p = p

-- what follows from either answer of a test
pub by_answer : (b : Bool) (P Q F G : Type 0) → (P → F) → (Q → G) → MatchBool b P Q → MatchBool b F G
by_answer true P Q F G to_f to_g h = to_f h
by_answer false P Q F G to_f to_g h = to_g h
