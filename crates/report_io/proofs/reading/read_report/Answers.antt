use Rattle.report_io.specs.Report.{FiveLines}
use Rattle.report_io.proofs.Exact.{lines_answer, first_answer, behind_answer}
use Rattle.report_io.proofs.reading.read_report.Goals as goal

pub returns-then-count-ne-LINES : goal.returns-then-count-ne-LINES
returns-then-count-ne-LINES c =
    let all = lines_answer c.args.bytes.now c.line_count-count.result c.lines_fault.result c.line_count-count.ensures c.if-count-ne-LINES.true c.lines_fault.ensures in
    record { answer = all.0; exact = all.1; within = all.2 }

pub returns-in-Ok : goal.returns-in-Ok
returns-in-Ok c =
    let five = c.five_lines-lines.result in
    let L : FiveLines = record { first = five.first.now; second = five.second.now; third = five.third.now; fourth = five.fourth.now; fifth = five.fifth.now } in
    let all = behind_answer c.args.bytes.now L c.in-Ok.instance c.report_of.result c.five_lines-lines.ensures c.in-Ok.ensures.answer c.report_of.ensures in
    record { answer = all.0; exact = all.1; within = all.2 }

pub returns-in-Err : goal.returns-in-Err
returns-in-Err c =
    let five = c.five_lines-lines.result in
    let L : FiveLines = record { first = five.first.now; second = five.second.now; third = five.third.now; fourth = five.fourth.now; fifth = five.fifth.now } in
    let all = first_answer c.args.bytes.now L c.in-Err.fault c.refusal_of.result c.five_lines-lines.ensures c.in-Err.ensures.answer c.in-Err.ensures.exact c.refusal_of.ensures in
    record { answer = all.0; exact = all.1; within = all.2 }
