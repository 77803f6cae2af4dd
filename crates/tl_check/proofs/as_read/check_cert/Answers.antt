use Rattle.tl_check.proofs.as_read.check_cert.Goals as goal

pub returns : goal.returns
returns g c =
    let so = c.decide.ensures.decides in
    record {
      sound = so.sound;
      valid = so.is_valid;
      within = so.within;
      report = so.report;
      map_fault = so.map_fault;
      cert_fault = so.cert_fault;
      behind = so.behind;
      meets = so.meets;
      searched = so.searched;
      stops = so.stops;
      failures = c.decide.ensures.failures;
    }
