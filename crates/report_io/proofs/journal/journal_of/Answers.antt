use Rattle.std.proofs.Common.{◌≡◌, ◌∙◌, ℕ, List, Result, Ok, Err, map, ap, ap₂, sym, inr}
use Rattle.serde_json.specs.View.{view}
use Rattle.plane.specs.declared.segment.Pair.{Pair}
use Rattle.journal_defs.specs.declared.commit.Commit.{Commit}
use Rattle.text_defs.specs.Steps.{◌>>=◌}
use Rattle.instance_io.specs.Refusal.{ends}
use Rattle.report_io.specs.declared.faults.ReportFault.{ReportFault}
use Rattle.report_io.specs.Answers.{Answers, tell_pairs, tell_commits, tell_journal}
use Rattle.report_io.specs.Parts.{CommitItem, JournalParts}
use Rattle.report_io.specs.Reading.{journal_in, start_pairs, commit_items}
use Rattle.report_io.specs.Report.{commit_item}
use Rattle.report_io.proofs.Steps.{stops, same_answer}
use Rattle.report_io.proofs.JournalSteps.{after_start, no_start, to_start, no_commits, to_commits}
use Rattle.report_io.proofs.journal.journal_of.Goals as goal

pub returns-in_default : goal.returns-in_default
returns-in_default c = inr (tt, no_start c.args.n (view c.args.value.now) c.in_default.ensures)

pub returns-in-Err : goal.returns-in-Err
returns-in-Err c =
    let d = view c.args.value.now in
    let items = start_pairs c.args.n (map view c.in-Some.items.now) in
    same_answer tell_journal (journal_in c.args.n d) (items >>= after_start c.args.n d) (Err c.in-Err.fault)
    (to_start c.args.n d c.in-Some.items.now c.in-Some.ensures) (stops tell_pairs tell_journal items (after_start c.args.n d) c.in-Err.fault c.in-Err.ensures)

pub returns-in_default-array_at : goal.returns-in_default-array_at
returns-in_default-array_at c =
    let d = view c.args.value.now in
    inr (
      tt,
      to_start c.args.n d c.in-Some.items.now c.in-Some.ensures
          ∙ (ap (λ (r : Result (List (ℕ × ℕ)) ReportFault). r >>= after_start c.args.n d) c.in-Ok.ensures
          ∙ no_commits c.args.n d (map ends c.in-Ok.start.items) c.in_default-array_at.ensures),
    )

pub returns-in-Ok-commits_in : goal.returns-in-Ok-commits_in
returns-in-Ok-commits_in c =
    let d = view c.args.value.now in
    let made : List Pair → List Commit → Result JournalParts ReportFault = λ start commits. Ok (record { start = map ends start; commits = map commit_item commits }) in
    to_start c.args.n d c.in-Some.items.now c.in-Some.ensures
    ∙ (ap (λ (r : Result (List (ℕ × ℕ)) ReportFault). r >>= after_start c.args.n d) c.in-Ok.ensures
    ∙ (to_commits c.args.n d (map ends c.in-Ok.start.items) c.in-Some-array_at.items.now c.in-Some-array_at.ensures
    ∙ (ap (λ (r : Result (List CommitItem) ReportFault). r >>= (λ (commits : List CommitItem). Ok (record { start = map ends c.in-Ok.start.items; commits = commits }))) c.in-Ok-commits_in.ensures
    ∙ ap₂ made (sym c.make.ensures) (sym c.make-in-Ok-commits_in.ensures))))

pub returns-in-Err-commits_in : goal.returns-in-Err-commits_in
returns-in-Err-commits_in c =
    let d = view c.args.value.now in
    let start = map ends c.in-Ok.start.items in
    let items = commit_items c.args.n (map view c.in-Some-array_at.items.now) in
    let next : List CommitItem → Result JournalParts ReportFault = λ commits. Ok (record { start = start; commits = commits }) in
    same_answer tell_journal (journal_in c.args.n d) (items >>= next) (Err c.in-Err-commits_in.fault)
    (to_start c.args.n d c.in-Some.items.now c.in-Some.ensures
    ∙ (ap (λ (r : Result (List (ℕ × ℕ)) ReportFault). r >>= after_start c.args.n d) c.in-Ok.ensures
    ∙ to_commits c.args.n d start c.in-Some-array_at.items.now c.in-Some-array_at.ensures))
    (stops tell_commits tell_journal items next c.in-Err-commits_in.fault c.in-Err-commits_in.ensures)
