use Rattle.tl_check.proofs.in_memory.check_map_with.Goals as goal

pub returns : goal.returns
returns c =
    let so = c.decide.ensures in
    record {
      sound = so.sound;
      valid = so.is_valid;
      within = so.within;
      report = so.report;
      map_fault = so.map_fault;
      cert_fault = so.cert_fault;
      behind = so.behind;
      meets = so.meets;
      searched = so.searched;
      stops = so.stops;
    }
