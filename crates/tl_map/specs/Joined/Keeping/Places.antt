-- What records tell of chains, by a key.
use Rattle.std.specs.Prelude.{◌==◌, ◌&&◌, Bool, false, Option, Some, None}
use Rattle.std.specs.Ordering.{nat_cmp, on, then_cmp}
use Rattle.std.specs.declared.cmp.Ordering.{Ordering}
use Rattle.tl_record.specs.declared.record.Record.{Record}
use Rattle.tl_record.specs.declared.record.Record.TheVariants.{Chain, Shape, Sides}
use Rattle.tl_map.specs.declared.joined.place.Place.{Place}

-- what a record tells: 49, 50 and 73 are '1', '2' and 'I'
abbrev pub place_of : Record → Option Place
place_of (Chain t from to) = Some (record { tlid = t; kind = 49; rtsq = 0 })
place_of (Shape t n pairs) = Some (record { tlid = t; kind = 50; rtsq = n })
place_of (Sides t start end left right) = Some (record { tlid = t; kind = 73; rtsq = 0 })
place_of other = None

-- does the record tell this
abbrev pub is_at : Place → Record → Bool
is_at p (Chain t from to) = (p.kind == 49) && ((p.rtsq == 0) && (p.tlid == t))
is_at p (Shape t n pairs) = (p.kind == 50) && ((p.tlid == t) && (p.rtsq == n))
is_at p (Sides t start end left right) = (p.kind == 73) && ((p.rtsq == 0) && (p.tlid == t))
is_at p other = false

-- by TLID, then by type, then by RTSQ
abbrev pub place_cmp : Place → Place → Ordering
place_cmp = then_cmp (on (λ (p : Place). p.tlid) nat_cmp) (then_cmp (on (λ (p : Place). p.kind) nat_cmp) (on (λ (p : Place). p.rtsq) nat_cmp))
