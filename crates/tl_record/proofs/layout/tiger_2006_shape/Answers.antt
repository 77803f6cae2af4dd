use Rattle.std.proofs.Common.{refl}
use Rattle.tl_record.proofs.layout.tiger_2006_shape.Goals as goal

pub returns : goal.returns
returns c =
    rw (
      c.new.ensures,
      c.new-2.ensures,
      c.point_columns.ensures,
      c.point_columns-2.ensures,
      c.point_columns-3.ensures,
      c.point_columns-4.ensures,
      c.point_columns-5.ensures,
      c.point_columns-6.ensures,
      c.point_columns-7.ensures,
      c.point_columns-8.ensures,
      c.point_columns-9.ensures,
      c.point_columns-10.ensures,
    ) refl
