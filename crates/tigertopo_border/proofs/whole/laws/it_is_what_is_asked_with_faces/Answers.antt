use Rattle.std.proofs.Common.{refl}
use Rattle.tigertopo_border.proofs.whole.laws.it_is_what_is_asked_with_faces.Goals as goal

pub returns : goal.returns
returns c = λ m cells. (
  λ asked. record {
    planar = asked.sound.planar;
    sides = asked.sound.sides;
    polygons = asked.sound.closed.polygons;
    outside = asked.sound.closed.outside;
    points = asked.sound.points;
    faces = asked.facing refl;
  },
  λ sound. record {
    sound = record {
      planar = sound.planar;
      sides = sound.sides;
      closed = record { polygons = sound.polygons; outside = sound.outside };
      points = sound.points;
      cells = cells;
    };
    facing = λ t. sound.faces;
  },
)
