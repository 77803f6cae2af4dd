use Rattle.std.proofs.Common.{◌<◌, ◌+◌, ◌-◌, ap, sym, ◌∙◌, arith, length, drop, get_or}
use Rattle.std.proofs.lemmas.List.{drop-set-lt, drop-drop}
use Rattle.tl_record.proofs.Buffer.{byte_moved}
use Rattle.tl_record.proofs.line_buffer.move_to_front.Goals as goal

pub loop-index-preserved : goal.loop-index-preserved
loop-index-preserved c =
    let bytes = c.loop-index.bytes in
    let index = c.loop-index.index in
    let below : index < length bytes = omega arith in
    let place : index - c.args.at < index + 1 = omega arith in
    record {
      front = byte_moved c.args.bytes.now bytes c.args.at index (omega arith) below (omega arith) c.loop-index.invariant.rest c.loop-index.invariant.front;
      rest = drop-set-lt (index + 1) bytes (index - c.args.at) (get_or bytes index 0) place
          ∙ sym (drop-drop 1 index bytes) ∙ ap (drop 1) c.loop-index.invariant.rest ∙ drop-drop 1 index c.args.bytes.now;
    }

pub bounds-bytes-index : goal.bounds-bytes-index
bounds-bytes-index c = omega arith

pub overflow_sub-bytes : goal.overflow_sub-bytes
overflow_sub-bytes c = omega arith

pub bounds-bytes-index-in-loop-index : goal.bounds-bytes-index-in-loop-index
bounds-bytes-index-in-loop-index c = omega arith
