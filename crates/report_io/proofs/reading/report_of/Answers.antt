use Rattle.std.proofs.Common.{◌≡◌, ℕ, length, Ok, refl, subst}
use Rattle.report_io.specs.Reading.{later_from}
use Rattle.report_io.specs.Report.{solution_parts, certificate_parts, journal_parts}
use Rattle.report_io.proofs.LaterSteps.{Stops, stop_solution, stop_certificate, stop_journal, stop_summary, all_lines}
use Rattle.report_io.proofs.reading.report_of.Goals as goal

pub returns-in-Err : goal.returns-in-Err
returns-in-Err c =
    let L = c.args.lines.now in (
      c.len-n.ensures.accepted,
      subst (λ n. Stops (later_from n L.second.now L.third.now L.fourth.now L.fifth.now) c.in-Err.fault) c.len-n.ensures.count
          (stop_solution c.len-n.result L.second.now L.third.now L.fourth.now L.fifth.now c.in-Err.fault c.in-Err.ensures),
    )

pub returns-in-Err-read_valued : goal.returns-in-Err-read_valued
returns-in-Err-read_valued c =
    let L = c.args.lines.now in
    let s = c.in-Ok.solution in (
      c.len-n.ensures.accepted,
      subst (λ n. Stops (later_from n L.second.now L.third.now L.fourth.now L.fifth.now) c.in-Err-read_valued.fault) c.len-n.ensures.count
          (stop_certificate c.len-n.result L.second.now L.third.now L.fourth.now L.fifth.now (solution_parts s.name s.pairs) c.in-Err-read_valued.fault c.in-Ok.ensures c.in-Err-read_valued.ensures),
    )

pub returns-in-Err-read_journal : goal.returns-in-Err-read_journal
returns-in-Err-read_journal c =
    let L = c.args.lines.now in
    let s = c.in-Ok.solution in
    let v = c.in-Ok-read_valued.valued in (
      c.len-n.ensures.accepted,
      subst (λ n. Stops (later_from n L.second.now L.third.now L.fourth.now L.fifth.now) c.in-Err-read_journal.fault) c.len-n.ensures.count
          (stop_journal c.len-n.result L.second.now L.third.now L.fourth.now L.fifth.now (solution_parts s.name s.pairs) (certificate_parts v.certificate v.value) c.in-Err-read_journal.fault c.in-Ok.ensures c.in-Ok-read_valued.ensures c.in-Err-read_journal.ensures),
    )

pub returns-in-Err-read_summary : goal.returns-in-Err-read_summary
returns-in-Err-read_summary c =
    let L = c.args.lines.now in
    let s = c.in-Ok.solution in
    let v = c.in-Ok-read_valued.valued in
    let j = c.in-Ok-read_journal.journal in (
      c.len-n.ensures.accepted,
      subst (λ n. Stops (later_from n L.second.now L.third.now L.fourth.now L.fifth.now) c.in-Err-read_summary.fault) c.len-n.ensures.count
          (stop_summary c.len-n.result L.second.now L.third.now L.fourth.now L.fifth.now (solution_parts s.name s.pairs) (certificate_parts v.certificate v.value) (journal_parts j.start j.commits) c.in-Err-read_summary.fault c.in-Ok.ensures c.in-Ok-read_valued.ensures c.in-Ok-read_journal.ensures c.in-Err-read_summary.ensures),
    )

pub returns : goal.returns
returns c =
    let L = c.args.lines.now in
    let s = c.in-Ok.solution in
    let v = c.in-Ok-read_valued.valued in
    let j = c.in-Ok-read_journal.journal in
    let m = c.in-Ok-read_summary.summary in (
      c.len-n.ensures.accepted,
      refl,
      subst (λ n. later_from n L.second.now L.third.now L.fourth.now L.fifth.now ≡ Ok (record { solution = solution_parts s.name s.pairs; certificate = certificate_parts v.certificate v.value; journal = journal_parts j.start j.commits; summary = m })) c.len-n.ensures.count
          (all_lines c.len-n.result L.second.now L.third.now L.fourth.now L.fifth.now (solution_parts s.name s.pairs) (certificate_parts v.certificate v.value) (journal_parts j.start j.commits) m c.in-Ok.ensures c.in-Ok-read_valued.ensures c.in-Ok-read_journal.ensures c.in-Ok-read_summary.ensures),
    )
