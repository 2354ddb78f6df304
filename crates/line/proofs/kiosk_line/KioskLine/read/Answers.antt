-- What is said of a line and of a fault follows from the answer alone.
use Rattle.std.proofs.Common.{arith}
use Rattle.line.proofs.KioskExact.{exact_read}
use Rattle.line.proofs.KioskCut.{cut_short}
use Rattle.line.proofs.KioskPlaces.{found}
use Rattle.line.proofs.kiosk_line.KioskLine.read.Goals as goal

pub returns : goal.returns
returns c =
    let over = c.args.over in
    let text = c.args.text.now in
    let answer = c.whole_line.ensures in
    record {
      answer = answer;
      exact = exact_read c.args.line over.mark over.order text _ answer;
      found = found c.args.line over.mark over.order text _ answer;
      cut_short = cut_short c.args.line over.mark over.order text _ (omega arith) answer;
    }
