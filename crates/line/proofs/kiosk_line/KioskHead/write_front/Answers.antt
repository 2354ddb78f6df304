-- The bytes before the codes are written one field after another.
use Rattle.std.proofs.Common.{arith}
use Rattle.std.proofs.lemmas.List.{append_assoc, length-set}
use Rattle.line.specs.KioskLine.{kiosk_front}
use Rattle.line.proofs.Written.{front_none, front_byte, front_field}
use Rattle.line.proofs.kiosk_line.KioskHead.write_front.Goals as goal

pub returns : goal.returns
unfolding kiosk_front
returns c =
    let head = c.args.self.now in
    let was = c.args.buffer.now in
    let letter = front_byte 107 (front_none was) (omega arith) in
    let mark = front_field head.mark letter c.write_field.ensures.after in
    let tour = front_field head.tour mark c.write_field-2.ensures.after in
    let degree = front_field head.degree tour c.write_field-3.ensures.after in
    let lanes = front_field head.lanes degree c.write_field-4.ensures.after in
    let number = front_field head.number.0 lanes c.write_field-5.ensures.after in
    let tab = front_byte 9 number (omega (arith, length-set was 0 107)) in
    record { mark_fits = c.write_field.ensures.fits; after = simp append_assoc (simp append_assoc at tab.holds) }
