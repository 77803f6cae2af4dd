-- A fault that is true of a map is true of the records that it is read from, and where no faces are asked for it is none of faces.
use Rattle.std.proofs.Common.{Bool, false}
use Rattle.tl_record.specs.Records.{Records as AllRecords}
use Rattle.tl_map_rules.specs.Reading.{IsReadFrom}
use Rattle.tl_map_county.specs.TheMap.{TheMap}
use Rattle.tl_check_verdict.specs.declared.fault.MapFault.{MapFault}
use Rattle.tl_check_verdict.specs.declared.fault.MapFault.TheVariants.{Records, NoRecords, Meet, Side, PolygonPoint, Cell, Face}
use Rattle.tl_check_verdict.specs.Truth.{IsTrueOfMapFor}
use Rattle.tl_check_verdict.specs.Records.{IsTrueOfRecords, IsTrueOfRecordsFor}
use Rattle.tl_check_verdict.proofs.Denials.{true_alone}
use Rattle.tl_check_verdict.proofs.OneMap.{weaker}

pub true_of_records : (faces : Bool) (all : AllRecords) (m : TheMap) (f : MapFault) → IsReadFrom all m → IsTrueOfMapFor faces m f → IsTrueOfRecordsFor faces all f
true_of_records faces all m (Records fault) is true = absurd true
true_of_records faces all m (NoRecords lacking) is true = absurd true
true_of_records faces all m (Meet meet) is true = record { map = m; is_read = is; so = true }
true_of_records faces all m (Side node first next) is true = record { map = m; is_read = is; so = true }
true_of_records faces all m (PolygonPoint fault) is true = record { map = m; is_read = is; so = true }
true_of_records faces all m (Cell odds) is true = record { map = m; is_read = is; so = true }
true_of_records faces all m (Face fault) is true = record { map = m; is_read = is; so = true }

-- where faces aren't asked for, a fault of records is none of faces
pub true_of_records_alone : (all : AllRecords) (f : MapFault) → IsTrueOfRecordsFor false all f → IsTrueOfRecords all f
true_of_records_alone all (Records fault) true = true
true_of_records_alone all (NoRecords lacking) true = true
true_of_records_alone all (Meet meet) true = true
true_of_records_alone all (Side node first next) true = true
true_of_records_alone all (PolygonPoint fault) true = true
true_of_records_alone all (Cell odds) true = true
true_of_records_alone all (Face fault) true = weaker all _ _ (λ m so. true_alone m (Face fault) so) true
