-- What a stop says of what failed.
use Rattle.tl_cert_output.specs.declared.stop.Stop.{Stop}
use Rattle.tl_cert_output.specs.declared.stop.Stop.TheVariants.{Record, Memory, Device, Budget}
use Rattle.tl_cert_output.specs.Stops.{StopsFor}
use Rattle.std.proofs.Common.{◌≡◌, Result, Ok, Err, IfErr, sym, subst}
use Rattle.std.specs.Result.{IsErrAnd}

-- what holds of a stop holds of the one that is answered
pub by_stop : {T : Type 0} (r : Result T Stop) (stop : Stop) (P : Stop → Type 0) → IsErrAnd r (λ told. told ≡ stop) → P stop → IfErr r P
by_stop (Ok done) stop P is holds = absurd is
by_stop (Err told) stop P is holds = subst P (sym is) holds

-- what failed, told more widely
pub stops_for : (failed other : Type 0) (stop : Stop) → (failed → other) → StopsFor failed stop → StopsFor other stop
stops_for failed other (Record line cause) wider stops = stops
stops_for failed other Memory wider stops = stops
stops_for failed other Device wider stops = wider stops
stops_for failed other Budget wider stops = stops
