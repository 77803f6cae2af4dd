-- What is answered where records have no map or a certificate can't be read on.
use Rattle.std.specs.Prelude.{Result, Ok, Err}
use Rattle.tl_map_rules.specs.declared.fault.MapStop.{MapStop}
use Rattle.tl_map_rules.specs.declared.fault.MapStop.TheVariants as map
use Rattle.tl_cert.specs.declared.stop.CertStop.{CertStop}
use Rattle.tl_cert.specs.declared.stop.CertStop.TheVariants as cert
use Rattle.tl_check_verdict.specs.declared.fault.MapFault.{MapFault}
use Rattle.tl_check_verdict.specs.declared.fault.MapFault.TheVariants.{Records, NoRecords}
use Rattle.tl_check_verdict.specs.declared.fault.CertFault.{CertFault}
use Rattle.tl_check_verdict.specs.declared.fault.CertFault.TheVariants.{Text}
use Rattle.tl_cert_output.specs.declared.stop.Stop.{Stop}
use Rattle.tl_cert_output.specs.declared.stop.Stop.TheVariants.{Record, Memory, Device}

-- where records have no map: their fault, or why they aren't read
abbrev pub unmapped : MapStop → Result MapFault Stop
unmapped (map.Refused line cause) = Err (Record line cause)
unmapped map.Device = Err Device
unmapped map.Memory = Err Memory
unmapped (map.Fault fault) = Ok (Records fault)
unmapped (map.NoRecords lacking) = Ok (NoRecords lacking)

-- where a certificate can't be read on: the fault of its text, or why it isn't read
abbrev pub unread : CertStop → Result CertFault Stop
unread (cert.Text line) = Ok (Text line)
unread cert.Memory = Err Memory
unread cert.Device = Err Device
