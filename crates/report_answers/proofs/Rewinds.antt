-- What is answered of an earlier moment of a report.
use Rattle.std.proofs.Common.{◌≡◌, ◌≢◌, ℕ, ◌<◌, ◌≤◌, List, ◌++◌, length, map, take, codes, Result, Ok, Err, IfOk, inl, inr, sym, subst}
use Rattle.std.specs.Prelude.{Vec}
use Rattle.std.specs.declared.alloc.Global.{Global}
use Rattle.plane.specs.declared.segment.Pair.{Pair}
use Rattle.text_defs.specs.Texts.{solution_text}
use Rattle.instance_io.specs.Refusal.{ends}
use Rattle.mcp_outside.specs.declared.NoMemory.{NoMemory}
use Rattle.journal_defs.specs.declared.commit.Commit.{Commit}
use Rattle.journal_defs.specs.Journal.{replay}
use Rattle.replay.specs.Replayed.{Replayed}
use Rattle.rewind.specs.Kept.{AreKept}
use Rattle.report_io.specs.declared.report.Report.{Report}
use Rattle.report_defs.specs.declared.verdict.Verdict.{Verdict as ReportVerdict}
use Rattle.report_defs.specs.declared.verdict.Verdict.TheVariants.{Valid}
use Rattle.report_defs.specs.Relation.{IsRight, IsStartInOrder}
use Rattle.report_defs.specs.Verdicts.{IsVerdict}
use Rattle.report_answers.specs.declared.answer.Told.{Told}
use Rattle.report_answers.specs.declared.answer.Told.TheVariants.{Yes, No, Refused}
use Rattle.report_answers.specs.declared.answer.ReportAnswer.{ReportAnswer}
use Rattle.report_answers.specs.Answers.{IsRefusedReport, IsReportIn}
use Rattle.report_answers.specs.Lines.{no_line, too_late_line}
use Rattle.report_answers.specs.Rewinding.{AreKeptAfter, IsRewound}

pub refused_so : (k : ℕ) (bytes : List ℕ) (r : Result ReportAnswer NoMemory) → IfOk r (λ a. a.told ≡ Refused) → IfOk r (λ a. IsRefusedReport bytes a.text.items) → IfOk r (λ a. IsRewound k bytes a.told a.text.items)
refused_so k bytes (Ok a) told h = subst (λ (t : Told). IsRewound k bytes t a.text.items) (sym told) (inl h)
refused_so k bytes (Err e) told h = tt

pub late_so : (k : ℕ) (bytes : List ℕ) (r : Report) (told : Told) (text : List ℕ) → IsReportIn bytes r → length r.commits < k → told ≡ Refused → text ≡ too_late_line (length r.commits) → IsRewound k bytes told text
late_so k bytes r told text given late is at = subst (λ (t : Told). IsRewound k bytes t text) (sym is) (inr (r, given, late, at))

pub wrong_so : (k : ℕ) (bytes : List ℕ) (r : Report) (v : ReportVerdict) (told : Told) (text : List ℕ) → IsReportIn bytes r → k ≤ length r.commits → v ≢ Valid → IsVerdict r v → told ≡ No → text ≡ no_line v → IsRewound k bytes told text
wrong_so k bytes r v told text given few wrong verdict is at = subst (λ (t : Told). IsRewound k bytes t text) (sym is) (r, v, (given, few), wrong, verdict, at)

pub kept_so : (k : ℕ) (bytes : List ℕ) (r : Report) (kept : List Pair) (text : List ℕ) → IsReportIn bytes r → k ≤ length r.commits → IsRight r → AreKeptAfter r k kept
    → text ≡ solution_text r.instance.name (map ends kept) ++ codes "\n" → IsRewound k bytes Yes text
kept_so k bytes r kept text given few right after is = (r, kept, (given, few), right, after, is)

-- the kept pairs of an earlier moment of the core of a report
pub kept_moment : (r : Report) (c : Replayed) (k n : ℕ) (out : Result (Vec Pair Global) NoMemory) → IsStartInOrder r c.start → c.journal ≡ r.commits → n ≡ k → IfOk out (λ l. AreKept c n l.items)
    → IfOk out (λ l. AreKeptAfter r k l.items)
kept_moment r c k n (Ok l) order same is h =
    (c.start, order, subst (λ (m : ℕ). l.items ≡ (replay c.start (take m r.commits)).kept) is (subst (λ (J : List Commit). l.items ≡ (replay c.start (take n J)).kept) same h))
kept_moment r c k n (Err e) order same is h = tt
