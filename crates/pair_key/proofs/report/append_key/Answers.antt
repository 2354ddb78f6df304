use Rattle.std.proofs.Common.{◌≡◌, ◌++◌, take, replicate, string_bytes, ap, ◌∙◌}
use Rattle.line.proofs.Checks.{no_fault, was_read}
use Rattle.line.specs.KioskLine.{kiosk_head}
use Rattle.kiosk.specs.Derivation.{refusal, key_of, left_in}
use Rattle.pair_key.specs.Report.{key_line, line_of}
use Rattle.kiosk.proofs.Keys.{key_part}
use Rattle.pair_key.proofs.report.append_key.Goals as goal

pub returns : goal.returns
unfolding line_of
returns g c =
    let A = g.F.Field.arith in
    let text = c.args.text.now in
    let other = c.args.other.0 in
    let was = string_bytes c.args.lines.now in
    let none = no_fault (refusal A text other 16) (kiosk_head text).lanes c.in_ok-count.count c.in_ok-count.ensures.answer in
    let count_is = was_read (refusal A text other 16) (kiosk_head text).lanes c.in_ok-count.count c.in_ok-count.ensures.answer in
    let key : c.derive.new.key ≡ left_in A text other (replicate 16 0) = c.derive.ensures.key in
    let count = c.in_ok-count.count in
    let appended : string_bytes c.write.new.self ≡ was ++ key_line c.args.head other (take count c.derive.new.key) = c.in_ok-write.ensures.bytes in (
      none,
      appended
          ∙ ap (λ cs. was ++ key_line c.args.head other cs) (key_part A text other (replicate 16 0) c.derive.new.key count none count_is key)
          ∙ ap (λ head. was ++ key_line head other (key_of A text other)) c.requires,
    )
