use Rattle.report_answers.proofs.Rewinds.{refused_so}
use Rattle.report_answers.proofs.moments.refused_moment.Goals as goal

pub returns : goal.returns
returns c = refused_so c.args.k c.args.bytes.now c.refused_report.result c.refused_report.ensures.told c.refused_report.ensures.text
