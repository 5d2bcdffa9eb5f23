-- What a right report tells, and that the report of a solved instance is right.
use Rattle.std.proofs.Common.{◌≡◌, ℕ, ◌+◌, ◌≤◌, ◌<◌, Bool, true, false, List, ◌++◌, length, get_or, nat_eq, if◌then◌else◌, IsTrue, sym, ◌∙◌, ap, subst, refl, inl, inr, arith}
use Rattle.std.specs.List.{Contains, All}
use Rattle.plane.specs.declared.coordinates.Point.{Point}
use Rattle.plane.specs.declared.segment.Pair.{Pair}
use Rattle.plane.specs.Accepted.{AreAccepted}
use Rattle.partition_defs.specs.Ascending.{ComesFirst, IsAscending}
use Rattle.partition_defs.specs.Partition.{IsConvexPartition}
use Rattle.partition_defs.specs.Sets.{AreSame, IsMinimal}
use Rattle.partition_defs.specs.Triangulation.{AreDistinct, IsTriangulation}
use Rattle.partition_defs.proofs.laws.Joined.{triangulation_same}
use Rattle.cost_defs.specs.Costs.{total}
use Rattle.journal_defs.specs.declared.commit.Commit.{Commit}
use Rattle.journal_defs.specs.Edits.{IsSound}
use Rattle.journal_defs.specs.Journal.{IsLegalJournal, made, replay}
use Rattle.journal_defs.proofs.laws.Later.{legal_prefix}
use Rattle.journal_defs.proofs.laws.Start.{sound_legal}
use Rattle.price_defs.proofs.laws.Duality.{none_is_cheaper}
use Rattle.solve_defs.specs.Solved.{IsBound, IsSolved}
use Rattle.report_io.specs.declared.faults.Field.{Field}
use Rattle.report_io.specs.declared.faults.Field.TheVariants.{Bound, Commits, Cost, Edges, Gap, Optimal, Version}
use Rattle.report_io.specs.declared.report.Report.{Report}
use Rattle.report_io.specs.declared.summary.Summary.{Summary}
use Rattle.report_defs.specs.Relation.{HasName, IsStartInOrder, IsRight}
use Rattle.report_defs.specs.Summaries.{AreCounted, compared, Holds, IsSummaryRight}
use Rattle.report_defs.specs.Laws.{IsTold, IsSummaryOf}
use Rattle.report_defs.proofs.laws.Same.{same_back, partition_same, minimal_same}
use Rattle.partition_defs.proofs.laws.Has.{ascending_distinct}

pub told : (r : Report) → AreAccepted r.instance.points → IsRight r → IsTold r
told r accepted right =
    let h = right.history in
    let S = r.instance.points in
    let tri : IsTriangulation S h.start = triangulation_same S r.start h.start (same_back h.start r.start h.order.1) h.head.start.1 in
    record {
      distinct = h.head.solution.0;
      partition = h.head.solution.1;
      minimal = right.least;
      start = h.start;
      order = h.order;
      end = h.result;
      history = λ A L is. (
          let legal : IsLegalJournal S h.start A = legal_prefix S h.start A L (subst (λ (M : List Commit). IsLegalJournal S h.start M) is h.journal) in
          let so : IsSound S (replay h.start A) = sound_legal S h.start A accepted h.order.0 tri legal.edits in so.partition);
      bound = λ K convex distinct. (
          let (B, list, is) = right.value in
          subst (λ n. n ≤ total r.instance.costs K) (sym is)
          (none_is_cheaper S accepted.count.0 r.instance.costs r.certificate.q r.certificate.rows B K right.certificate list convex distinct));
    }

same_own : (K : List Pair) → AreSame K K
same_own K i j = (λ h. h, λ h. h)

compared_two : (s : Summary) → s.version ≡ 2 → compared s ≡ s.cost
compared_two s e = ap (λ v. if nat_eq v 1 then s.edges else s.cost) e

summary_right : (E : ℕ) (r : Report) → All (λ c. c.caller ≤ E) r.commits → IsSummaryOf E r → IsSummaryRight r
summary_right E r callers s Bound = s.bound
summary_right E r callers s Commits = ((λ c h. s.commits c (let n = s.callers in omega arith)), λ k d h. (let b = callers k d h in let n = s.callers in omega arith))
summary_right E r callers s Cost = λ _. s.cost
summary_right E r callers s Edges = s.edges
summary_right E r callers s Gap = let e = compared_two r.summary s.version in omega (arith, e, s.bound, s.gap)
summary_right E r callers s Optimal = let e = compared_two r.summary s.version in (λ h. e ∙ s.optimal.0 h ∙ sym s.bound, λ h. s.optimal.1 (sym e ∙ h ∙ s.bound))
summary_right E r callers s Version = λ one. absurd (let v = s.version in omega arith)

pub solved : (r : Report) (E : ℕ) → AreAccepted r.instance.points → HasName r
    → IsSolved r.instance.points r.instance.costs E r.start r.commits r.solution r.certificate
    → IsBound r.instance.points r.instance.costs r.certificate r.value → IsSummaryOf E r → IsRight r
solved r E accepted name so bound summary =
    let S = r.instance.points in
    let sound : IsSound S (replay r.start r.commits) = sound_legal S r.start r.commits accepted so.ascending so.triangulation so.journal.edits in
    record {
      history = record {
        head = record {
          name = name;
          solution = (
            subst AreDistinct so.result (ascending_distinct (replay r.start r.commits).kept sound.kept_ascending),
            subst (λ K. IsConvexPartition S K) so.result sound.partition,
          );
          start = (ascending_distinct r.start so.ascending, so.triangulation);
        };
        start = r.start;
        order = (so.ascending, same_own r.start);
        journal = so.journal;
        result = subst (λ K. AreSame (replay r.start r.commits).kept K) so.result (same_own (replay r.start r.commits).kept);
      };
      least = so.minimal;
      certificate = so.valid;
      value = bound;
      summary = summary_right E r so.manned.callers summary;
    }
