-- What the replay of a report's journal shows of the report.
use Rattle.std.proofs.Common.{◌≡◌, ℕ, List, sym, ◌∙◌, subst}
use Rattle.plane.specs.declared.coordinates.Point.{Point}
use Rattle.plane.specs.declared.segment.Pair.{Pair}
use Rattle.partition_defs.specs.Sets.{without, AreSame, IsMinimal}
use Rattle.partition_defs.proofs.laws.Joined.{contains_same}
use Rattle.journal_defs.specs.declared.commit.Commit.{Commit}
use Rattle.journal_defs.specs.Journal.{IsLegalJournal, replay}
use Rattle.replay.specs.Replayed.{Replayed, IsCore, state_of}
use Rattle.report_io.specs.declared.report.Report.{Report}
use Rattle.report_defs.specs.Relation.{IsStartInOrder, HasJournal, HasResult, HasLeast, HasHead, HasHistory}
use Rattle.report_defs.specs.Verdicts.{IsFirstToGo, IsFirstBadCommit}
use Rattle.report_defs.proofs.laws.Same.{same_back, partition_same, without_same, minimal_same}
use Rattle.report_check.specs.Replays.{IsReplayOf, IsOf}

pub journal_of : (r : Report) (c : Replayed) → IsReplayOf r c → HasJournal r c.start
journal_of r c so = subst (λ (S : List Point). IsLegalJournal S c.start r.commits) so.points (subst (λ (J : List Commit). IsLegalJournal c.points c.start J) so.journal so.core.legal)

pub result_of : (r : Report) (c : Replayed) → IsReplayOf r c → AreSame (state_of c).kept r.solution → HasResult r c.start
result_of r c so same = subst (λ (J : List Commit). AreSame (replay c.start J).kept r.solution) so.journal same

pub result_not : (r : Report) (c : Replayed) → IsReplayOf r c → ¬ AreSame (state_of c).kept r.solution → ¬ HasResult r c.start
result_not r c so never same = never (subst (λ (J : List Commit). AreSame (replay c.start J).kept r.solution) (sym so.journal) same)

pub history_of : (r : Report) (c : Replayed) → HasHead r → IsReplayOf r c → AreSame (state_of c).kept r.solution → HasHistory r
history_of r c head so same = record { head = head; start = c.start; order = so.order; journal = journal_of r c so; result = result_of r c so same }

pub least_of : (r : Report) (c : Replayed) → IsReplayOf r c → AreSame (state_of c).kept r.solution → IsMinimal c.points (state_of c).kept → HasLeast r
least_of r c so same minimal = subst (λ (S : List Point). IsMinimal S r.solution) so.points (minimal_same c.points (state_of c).kept r.solution same minimal)

pub go_of : (r : Report) (c : Replayed) (e : Pair) → IsReplayOf r c → AreSame (state_of c).kept r.solution → IsFirstToGo c.points (state_of c).kept e → IsFirstToGo r.instance.points r.solution e
go_of r c e so same go = subst (λ (S : List Point). IsFirstToGo S r.solution e) so.points (record {
  there = contains_same K r.solution same e go.there;
  can = partition_same c.points (without e K) (without e r.solution) (without_same K r.solution e same) go.can;
  first = λ f h comes part. go.first f (contains_same r.solution K back f h) comes (partition_same c.points (without f r.solution) (without f K) (without_same r.solution K f back) part);
})
  where
    K : List Pair
    K = (replay c.start c.journal).kept

    back : AreSame r.solution (replay c.start c.journal).kept
    back = same_back (replay c.start c.journal).kept r.solution same

-- the replay from an opening
pub replay_of : (r : Report) (old new : Replayed) → old.points ≡ r.instance.points → IsStartInOrder r old.start → IsOf old new → IsCore new → new.journal ≡ r.commits → IsReplayOf r new
replay_of r old new points order of core journal = record {
  points = of.points ∙ points;
  order = subst (λ A. IsStartInOrder r A) (sym of.start) order;
  journal = journal;
  core = core;
}

pub bad_of : (r : Report) (old : Replayed) (k : ℕ) → old.points ≡ r.instance.points → IsStartInOrder r old.start → IsFirstBadCommit old.points old.start r.commits k
    → (start : List Pair) × IsStartInOrder r start × IsFirstBadCommit r.instance.points start r.commits k
bad_of r old k points order bad = (old.start, order, subst (λ (S : List Point). IsFirstBadCommit S old.start r.commits k) points bad)
