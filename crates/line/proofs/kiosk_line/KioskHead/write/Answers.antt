-- The front, the codes and the line feed are written one behind another, and the whole reads back.
use Rattle.std.proofs.Common.{◌≡◌, ◌+◌, ◌*◌, ◌≤◌, false, ltb, length, drop, Ok, sym, ap, ◌∙◌, arith}
use Rattle.std.specs.List.{flat_map}
use Rattle.std.proofs.lemmas.List.{take_at}
use Rattle.std.proofs.lemmas.Bool.{le-ltb}
use Rattle.line.specs.Digits.{eight}
use Rattle.line.specs.KioskLine.{kiosk_front, kiosk_line, line_length}
use Rattle.line.proofs.Written.{Front, front_more, front_byte, front_length, lent_at, length_codes}
use Rattle.line.proofs.KioskLaws.{length_front, length_line, line_holds}
use Rattle.line.proofs.KioskReadsBack.{reads_back}
use Rattle.line.proofs.kiosk_line.KioskHead.write.Goals as goal

pub returns : goal.returns
returns c =
    let head = c.args.self.now in
    let codes = c.args.codes.now in
    let was = c.args.buffer.now in
    let front = c.write_front.new.buffer in
    let room : line_length codes ≤ length was = omega arith in
    let enough : ltb (length was) (line_length codes) ≡ false = le-ltb (length was) (line_length codes) room in
    let before : Front (kiosk_front head) 47 was front = record { count = length_front head; holds = c.write_front.ensures.after } in
    let with_codes = front_more 47 (8 * length codes) (kiosk_front head) (flat_map eight codes) was front _ before (length_codes codes)
    (lent_at 47 (8 * length codes) (flat_map eight codes) front c.write_codes.new.buffer (omega arith) c.write_codes.ensures) in
    let whole = front_byte 10 with_codes (omega (arith, front_length with_codes (omega arith))) in
    let holds = line_holds head codes was _ whole in
    let end : 47 + 8 * length codes + 1 ≡ line_length codes = omega arith in
    record {
      answer = simp enough (ap Ok end);
      after = simp enough holds;
      reads_back = rw (holds, take_at (kiosk_line head codes) (drop (line_length codes) was) (47 + 8 * length codes + 1) (length_line head codes ∙ sym end)) (reads_back head codes c.write_front.ensures.mark_fits);
    }
